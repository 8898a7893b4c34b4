use Rattle.ct_io.proofs.line_reader.LineReader.next_line.Goals as goal

pub returns : goal.returns
returns g c =
    let h = c.give_next.ensures in
    record {
      line = h.line;
      lines = h.lines;
      none = h.none;
      kept = h.kept;
      taken = h.taken;
      end = h.end;
      read_to_end = h.read_to_end;
      ended = h.ended;
      unread = h.unread;
      little = h.little;
      all_kept = h.all_kept;
      dropped = h.dropped;
      read_fault = h.read_fault;
      too_long = h.too_long;
      within = h.within;
      one_read_past = h.one_read_past;
      no_line_held = h.no_line_held;
      last_read = h.last_read;
      unended = h.unended;
      above_limit = h.above_limit;
      remembered = h.remembered;
      no_lasting_memory = h.no_lasting_memory;
      few_at_memory = h.few_at_memory;
      stays = h.stays;
      counted = h.counted;
    }

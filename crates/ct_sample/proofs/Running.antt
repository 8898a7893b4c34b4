-- What holds of the pieces of a run, which has no documents: what they give to the table stands, their codes are codes, and their entries are of the table.
use Rattle.std.proofs.Common.{◌≡◌, ℕ, zero, suc, ◌+◌, ◌≤◌, ◌%◌, ◌==◌, Bool, true, false, cond, List, [], ◌∷◌, ◌++◌, length, Option, Some, None, option_map, Result, Ok, Err, is_ok, refl, sym, ap, subst, arith}
use Rattle.std.specs.Prelude.{IfSome, filter}
use Rattle.std.proofs.lemmas.List.Elements.{All-nil, All-cons, All-push, All-head, All-tail, All-filter}
use Rattle.ct_words.specs.Entry.{IsEntry}
use Rattle.ct_rule_parts.specs.Support.{Stands, AllStand}
use Rattle.ct_kind.specs.declared.evidence.Evidence.{Evidence}
use Rattle.ct_files.specs.Document.{DocumentValue, without_cites}
use Rattle.ct_files.specs.Evidence.{IsSound}
use Rattle.ct_kind.specs.Named.{NamedCode}
use Rattle.ct_files.specs.ByKind.{words_over}
use Rattle.ct_piece.specs.Piece.{PieceValue, has_id, stored_words, first_user}
use Rattle.ct_piece.specs.Codes.{named_code, codes_of}
use Rattle.ct_piece.specs.Submission.{with_piece}
use Rattle.ct_piece.specs.Inside.Making.{made_of, stored_beside}
use Rattle.ct_piece.specs.Supports.{support_of, supports_of}
use Rattle.ct_piece.specs.Withdrawal.{without, unless_used, withdrawn, left_by}
use Rattle.ct_kind.specs.declared.fault.SubmitFault.{SubmitFault}
use Rattle.ct_piece.specs.declared.fault.WithdrawFault.{WithdrawFault}
use Rattle.ct_piece.specs.declared.fault.WithdrawFault.TheVariants as withdraw
use Rattle.ct_piece.proofs.CodeLemmas.{codes_of-push}
use Rattle.ct_kind.specs.Sound.{AreSound, HasSoundCode}
use Rattle.ct_files.proofs.StatedByKind.{IsRight, states_code, over-sound}
use Rattle.ct_piece.proofs.MakingLemmas.{making}
use Rattle.ct_piece.proofs.LeavingLemmas.{other_than, ArePassed-others, codes-passing}
use Rattle.ct_piece.proofs.SupportLemmas.{supports-push}
use Rattle.ct_piece.proofs.StandingLemmas.{unless_full-ok, stored_beside-ok}
use Rattle.ct_sample.specs.Command.{step_id, first_unused, command_drawn}
use Rattle.ct_sample.specs.Drawn.{drawn_evidence}
use Rattle.ct_sample.specs.Inside.Sound.{IsSoundCommand}
use Rattle.ct_sample.specs.Random.{drawn}
use Rattle.ct_sample.specs.Run.{RunValue, made_without_document, after_command, run_to}
use Rattle.ct_sample.specs.declared.command.Command.{Command}
use Rattle.ct_sample.specs.declared.command.Command.TheVariants.{Submit, Withdraw}
use Rattle.ct_sample.proofs.DrawnSound.{AreEntries, drawn-sound}

pub record IsRunning (pieces : List PieceValue) : Type 0 where
  pub stand : AllStand (supports_of pieces)
  pub sound : AreSound (codes_of pieces)
  pub entries : AreEntries pieces

running-none : IsRunning []
running-none = record { stand = All-nil Stands; sound = All-nil HasSoundCode; entries = All-nil (λ (p : PieceValue). IsEntry p.entry) }

-- what a piece that evidence makes gives stands, its code is one, and its entry is of the table
record IsGood (known : List NamedCode) (p : PieceValue) : Type 0 where
  stands : Stands (support_of p)
  sound : HasSoundCode (named_code known p)
  entry : IsEntry p.entry

made-good : (known : List NamedCode) (id document : List ℕ) (evidence : Evidence) (p : PieceValue) → AreSound known → IsSound evidence → made_of known id document (without_cites evidence) ≡ Ok p → IsGood known p
made-good known id document evidence p codes sound made =
    let m = making known id document (Ok (without_cites evidence)) p made in
    let stated : without_cites evidence ≡ m.stated = let is = m.is in cc in
    let same : evidence ≡ m.stated.evidence = ap (λ (d : DocumentValue). d.evidence) stated in
    let right : IsRight known m.stated.evidence = record { sound = subst IsSound same sound; faultless = m.faultless } in
    let states = states_code known m.stated.evidence codes right in
    record {
      stands = subst (λ (q : PieceValue). Stands (support_of q)) m.piece states.stands;
      sound = subst (λ (q : PieceValue). HasSoundCode (named_code known q)) m.piece
          (record { code = over-sound known m.stated.evidence (words_over known m.stated.evidence) states refl; partition = states.partition });
      entry = subst (λ (q : PieceValue). IsEntry q.entry) m.piece states.entry;
    }

running-push : (pieces : List PieceValue) (p : PieceValue) → IsRunning pieces → IsGood (codes_of pieces) p → IsRunning (pieces ++ p ∷ [])
running-push pieces p h good = record {
  stand = subst AllStand (sym (supports-push pieces p)) (All-push Stands (supports_of pieces) (support_of p) h.stand good.stands);
  sound = subst AreSound (sym (codes_of-push pieces p)) (All-push HasSoundCode (codes_of pieces) (named_code (codes_of pieces) p) h.sound good.sound);
  entries = All-push (λ (q : PieceValue). IsEntry q.entry) pieces p h.entries good.entry;
}

-- evidence that makes a piece without its document makes it over the codes of the pieces
bare-made : (pieces : List PieceValue) (id : List ℕ) (evidence : Evidence) (p : PieceValue) → made_without_document pieces id evidence ≡ Ok p → made_of (codes_of pieces) id [] (without_cites evidence) ≡ Ok p
unfolding made_without_document
bare-made pieces id evidence p h =
    let made = made_of (codes_of pieces) id [] (without_cites evidence) in
    let whole = unless_full-ok (has_id id pieces) (length pieces) (stored_beside (stored_words pieces) made) p h in
    (stored_beside-ok (stored_words pieces) made p whole.2).0

running-made : (pieces : List PieceValue) (id : List ℕ) (evidence : Evidence) (made : Result PieceValue SubmitFault) → IsRunning pieces → IsSound evidence
    → made_without_document pieces id evidence ≡ made → IsRunning (with_piece pieces made)
running-made pieces id evidence (Ok p) h sound is =
    running-push pieces p h (made-good (codes_of pieces) id [] evidence p h.sound sound (bare-made pieces id evidence p is))
running-made pieces id evidence (Err reason) h sound is = h

stand-filter : (test : PieceValue → Bool) (ps : List PieceValue) → AllStand (supports_of ps) → AllStand (supports_of (filter test ps))
stand-filter test [] h = h
stand-filter test (p ∷ ps) h = at (test p) (stand-filter test ps (All-tail Stands (support_of p) (supports_of ps) h)) where
  at : (b : Bool) → AllStand (supports_of (filter test ps)) → AllStand (supports_of (cond b (p ∷ filter test ps) (filter test ps)))
  at true rest = All-cons Stands (support_of p) (supports_of (filter test ps)) (All-head Stands (support_of p) (supports_of ps) h) rest
  at false rest = rest

running-without : (pieces : List PieceValue) (id : List ℕ) → IsRunning pieces → first_user id pieces ≡ None → IsRunning (without id pieces)
running-without pieces id h none =
    let others : PieceValue → Bool = λ (q : PieceValue). other_than id q.id in
    record {
      stand = stand-filter others pieces h.stand;
      sound =
          subst AreSound (sym (codes-passing (other_than id) pieces (ArePassed-others id pieces none)))
          (All-filter (λ (k : NamedCode). other_than id k.id) HasSoundCode (codes_of pieces) h.sound);
      entries = All-filter others (λ (q : PieceValue). IsEntry q.entry) pieces h.entries;
    }

running-used : (user : Option PieceValue) (id : List ℕ) (pieces : List PieceValue) → first_user id pieces ≡ user → IsRunning pieces
    → IsRunning (left_by pieces (unless_used user (without id pieces)))
running-used None id pieces none h = running-without pieces id h none
running-used (Some user) id pieces used h = h

running-has : (b : Bool) (left : Result (List PieceValue) WithdrawFault) (reason : WithdrawFault) (pieces : List PieceValue) → IsRunning pieces → IsRunning (left_by pieces left)
    → IsRunning (left_by pieces (cond b left (Err reason)))
running-has true left reason pieces h k = k
running-has false left reason pieces h k = h

running-left : (pieces : List PieceValue) (id : List ℕ) → IsRunning pieces → IsRunning (left_by pieces (withdrawn pieces id))
unfolding withdrawn
running-left pieces id h =
    running-has (has_id id pieces) (unless_used (first_user id pieces) (without id pieces)) withdraw.NoSuch pieces h (running-used (first_user id pieces) id pieces refl h)

running-after : (run : RunValue) (command : Option Command) → IsRunning run.pieces → IfSome command IsSoundCommand → IsRunning (after_command run command).pieces
running-after run None h sound = h
running-after run (Some (Submit id evidence)) h sound = running-made run.pieces id evidence (made_without_document run.pieces id evidence) h sound refl
running-after run (Some (Withdraw id)) h sound = running-left run.pieces id h

withdraw-sound : (id : Option (List ℕ)) → IfSome (option_map Withdraw id) IsSoundCommand
withdraw-sound None = tt
withdraw-sound (Some id) = tt

pub command-sound : (step h : ℕ) (pieces : List PieceValue) → AreEntries pieces → IfSome (command_drawn step h pieces) IsSoundCommand
command-sound step h pieces entries = at (step % 3 == 0) where
  at : (b : Bool) → IfSome (cond b (option_map Withdraw (first_unused pieces)) (Some (Submit (step_id step) (drawn_evidence h pieces)))) IsSoundCommand
  at true = withdraw-sound (first_unused pieces)
  at false = drawn-sound h pieces entries

pub running : (number step : ℕ) → IsRunning (run_to number step).pieces
unfolding run_to
running number zero = running-none
running number (suc step) =
    let before = running number step in
    running-after (run_to number step) (command_drawn (suc step) (drawn number (suc step)) (run_to number step).pieces) before
    (command-sound (suc step) (drawn number (suc step)) (run_to number step).pieces before.entries)

counted : (b : Bool) → cond {A = ℕ} b 1 0 ≤ 1
counted true = omega arith
counted false = omega arith

counts-after : (run : RunValue) (command : Option Command) → (after_command run command).accepted + (after_command run command).withdrawn ≤ run.accepted + run.withdrawn + 1
counts-after run None = omega arith
counts-after run (Some (Submit id evidence)) = let one = counted (is_ok (made_without_document run.pieces id evidence)) in omega (arith, one)
counts-after run (Some (Withdraw id)) = let one = counted (is_ok (withdrawn run.pieces id)) in omega (arith, one)

-- no more commands are followed than there were steps
pub counts-le : (number step : ℕ) → (run_to number step).accepted + (run_to number step).withdrawn ≤ step
unfolding run_to
counts-le number zero = omega arith
counts-le number (suc step) =
    let before = counts-le number step in
    let after = counts-after (run_to number step) (command_drawn (suc step) (drawn number (suc step)) (run_to number step).pieces) in
    omega (arith, before, after)

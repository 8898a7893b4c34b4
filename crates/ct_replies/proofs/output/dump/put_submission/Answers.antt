use Rattle.std.proofs.Common.{◌≡◌, List, ℕ, Bor, ap, ◌∙◌}
use Rattle.std.specs.List.{flat_map}
use Rattle.ct_io.proofs.BufferedLemmas.{is_put_as}
use Rattle.ct_commands.specs.Submission.{submission_text}
use Rattle.ct_piece.specs.Dump.{piece_dump}
use Rattle.ct_replies.proofs.output.dump.put_submission.Goals as goal

pub returns : goal.returns
returns g c =
    let is : flat_map (λ (part : Bor (List ℕ)). part.now) c.submission_parts-parts.result ≡ piece_dump c.args.piece.now =
    c.submission_parts-parts.ensures ∙ ap (λ (id : List ℕ). submission_text id c.document-document.result.now) (c.text.ensures.text ∙ c.id-id.ensures)
    ∙ ap (submission_text c.args.piece.now.id) c.document-document.ensures in
    is_put_as _ _ _ _ _ is c.put_parts.ensures

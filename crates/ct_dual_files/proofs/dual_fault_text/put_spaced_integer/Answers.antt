use Rattle.std.proofs.Common.{◌∷◌, [], ap, ◌∙◌}
use Rattle.std.specs.Fmt.{signed_decimal}
use Rattle.std.proofs.lemmas.Int.{to_z-of_z}
use mir.Syntax.{w128}
use Rattle.ct_dual_files.proofs.TextParts.{onto_on_ok, puts_once}
use Rattle.ct_dual_files.proofs.dual_fault_text.put_spaced_integer.Goals as goal

pub returns : goal.returns
returns c =
    onto_on_ok c.extend_from_slice.result c.args.text.now.items (32 ∷ []) (signed_decimal c.args.number) c.push.new.self.items
    c.extend_from_slice.new.self.items c.in_ok-push.ensures.items
    (puts_once c.extend_from_slice.result c.push.new.self.items c.as_bytes.result.now (signed_decimal c.args.number) c.extend_from_slice.new.self.items
    (c.as_bytes.ensures.value ∙ c.in_ok-digits.ensures.ok ∙ ap signed_decimal (to_z-of_z w128 c.args.number c.ranges.number))
    c.extend_from_slice.ensures.items)

-- Which replies are refusals.
use Rattle.std.specs.Prelude.{Bool, true, false}
use Rattle.ct_replies.specs.declared.reply.Reply.{Reply}
use Rattle.ct_replies.specs.declared.reply.Reply.TheVariants.{Refused}

-- whether a reply is a refusal
abbrev pub is_refusal : Reply → Bool
is_refusal (Refused r) = true
is_refusal reply = false

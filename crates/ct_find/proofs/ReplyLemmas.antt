-- Replies to lines, one after another.
use Rattle.std.proofs.Common.{◌≡◌, ℕ, Bool, true, false, List, [], ◌∷◌, ◌++◌, append-nil, append_assoc, refl, sym, subst}
use Rattle.std.specs.Prelude.{◌||◌}
use Rattle.ct_find.specs.Reply.{IsFoundReply, AreFoundReplies}

-- the replies so far, with those to the lines that follow, are those to all lines
abbrev pub Leads : List (List ℕ) → List ℕ → Bool → List (List ℕ) → Type 0
Leads lines text refused left = (rest : List ℕ) (later : Bool) → AreFoundReplies left rest later → AreFoundReplies lines (text ++ rest) (refused || later)

pub leads_first : (lines : List (List ℕ)) → Leads lines [] false lines
leads_first lines = λ rest later are. are

or_assoc : (a b c : Bool) → (a || (b || c)) ≡ ((a || b) || c)
or_assoc true b c = refl
or_assoc false b c = refl

or_false : (a : Bool) → (a || false) ≡ a
or_false true = refl
or_false false = refl

pub leads_on : (lines left : List (List ℕ)) (line text reply : List ℕ) (refused here : Bool) → Leads lines text refused (line ∷ left) → IsFoundReply line reply here
    → Leads lines (text ++ reply) (refused || here) left
leads_on lines left line text reply refused here leads is = λ rest later are.
    subst (λ (t : List ℕ). AreFoundReplies lines t ((refused || here) || later)) (sym (append_assoc text reply rest))
    (subst (λ (b : Bool). AreFoundReplies lines (text ++ (reply ++ rest)) b) (or_assoc refused here later)
    (leads (reply ++ rest) (here || later) (reply, rest, here, later, is, are, refl, refl)))

pub leads_last : (lines : List (List ℕ)) (text : List ℕ) (refused : Bool) → Leads lines text refused [] → AreFoundReplies lines text refused
leads_last lines text refused leads =
    subst (λ (t : List ℕ). AreFoundReplies lines t refused) (append-nil text)
    (subst (λ (b : Bool). AreFoundReplies lines (text ++ []) b) (or_false refused) (leads [] false (refl, refl)))

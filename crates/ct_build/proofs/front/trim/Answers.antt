-- The first words of a code are one, and as many as are asked for.
use Rattle.std.proofs.Common.{◌≡◌, ℕ, ◌≤◌, List, length, take, inl, ap, ap₂, sym, ◌∙◌, subst, arith}
use Rattle.std.proofs.lemmas.List.{length-take}
use Rattle.ct_words.specs.Code.{CodeValue, IsSoundCode}
use Rattle.ct_words.proofs.Constructions.FrontLemmas.{IsCode-take, ascending-take}
use Rattle.ct_build.specs.declared.fault.BuildFault.TheVariants.{Few}
use Rattle.ct_build.proofs.Failures.{made}
use Rattle.ct_build.proofs.Sound.{IsSoundCode-same}
use Rattle.ct_build.proofs.front.trim.Goals as goal
use Rattle.ct_build.proofs.front.trim.Goals.{In_ok-first, After-w}

-- of a list that is long enough
length_front : (size : ℕ) (words : List ℕ) → size ≤ length words → length (take size words) ≡ size
length_front size words long = omega (arith, length-take size words)

sound_front : (code : CodeValue) (size : ℕ) → IsSoundCode code → 1 ≤ size → size ≤ length code.words
    → IsSoundCode (record { n = code.n; d = code.d; w = code.w; words = take size code.words })
sound_front code size sound some long = record {
  length_in_range = sound.length_in_range;
  distance_in_range = sound.distance_in_range;
  some = subst (λ m. 1 ≤ m) (sym (length_front size code.words long)) some;
  ascending = ascending-take size code.words sound.ascending;
  code = IsCode-take code.n code.d code.w size code.words sound.code;
}

long_enough : (c : In_ok-first) → c.args.size ≤ length c.args.part.now.words
long_enough c = subst (λ (ws : List ℕ). c.args.size ≤ length ws) c.words-words.ensures.value c.if-words-size.false

words_are : (c : In_ok-first) → c.in_ok-first.first.items ≡ take c.args.size c.args.part.now.words
words_are c = c.in_ok-first.ensures.items ∙ ap (take c.args.size) c.words-words.ensures.value

sound : (c : After-w) → c.args.size ≤ length c.args.part.now.words → c.in_ok-first.first.items ≡ take c.args.size c.args.part.now.words
    → IsSoundCode (record { n = c.n.result; d = c.d.result; w = c.w.result; words = c.in_ok-first.first.items })
sound c long first =
    let part = c.args.part.now in
    let size = c.args.size in
    IsSoundCode-same (record { n = part.n; d = part.d; w = part.w; words = take size part.words }) _ _ _ _ c.n.ensures.value c.d.ensures.value c.w.ensures.value
    first (sound_front part size c.n.ensures.sound c.requires long)

pub slice_bounds-from_slice-end : goal.slice_bounds-from_slice-end
slice_bounds-from_slice-end c = sym (length_front c.args.size c.words-words.result.now c.if-words-size.false)

pub returns-then-words-size-clause-faults : goal.returns-then-words-size-clause-faults
returns-then-words-size-clause-faults c = inl (ap₂ (λ n s. Few n s) (ap length c.words-words.ensures.value) c.from.ensures)

pub from_sorted-requires : goal.from_sorted-requires
from_sorted-requires c =
    let at = goal.at.from_sorted-requires c in
    record { code = sound at.After-w (long_enough at.In_ok-first) (words_are at.In_ok-first) }

pub returns-clause-n : goal.returns-clause-n
returns-clause-n c = ap (λ (v : CodeValue). v.n) c.from_sorted.ensures.value ∙ c.n.ensures.value

pub returns-clause-d : goal.returns-clause-d
returns-clause-d c = ap (λ (v : CodeValue). v.d) c.from_sorted.ensures.value ∙ c.d.ensures.value

pub returns-clause-words : goal.returns-clause-words
returns-clause-words c = ap (λ (v : CodeValue). v.words) c.from_sorted.ensures.value ∙ words_are ((goal.at.returns-clause-words c).In_ok-first)

pub returns-clause-size : goal.returns-clause-size
returns-clause-size c =
    let before = (goal.at.returns-clause-size c).In_ok-first in
    ap (λ (v : CodeValue). length v.words) c.from_sorted.ensures.value ∙ ap length (words_are before)
    ∙ length_front c.args.size c.args.part.now.words (long_enough before)

pub returns-clause-sound : goal.returns-clause-sound
returns-clause-sound c =
    let at = goal.at.returns-clause-sound c in
    subst IsSoundCode (sym c.from_sorted.ensures.value) (sound at.After-w (long_enough at.In_ok-first) (words_are at.In_ok-first))

pub returns-clause-few : goal.returns-clause-few
returns-clause-few c =
    let long = long_enough ((goal.at.returns-clause-few c).In_ok-first) in
    (λ same. absurd (made c.from_sorted.result (Few (length c.args.part.now.words) c.args.size) same), λ short. absurd (omega (arith, long, short)))

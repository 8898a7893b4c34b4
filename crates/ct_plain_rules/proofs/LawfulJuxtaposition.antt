-- Words side by side.
use Rattle.std.proofs.Common.{◌≡◌, ℕ, ◌+◌, ◌-◌, ◌<◌, ◌≤◌, min, ◌&&◌, true, Contains, map, subst, refl, arith}
use Rattle.std.specs.Prelude.{Option}
use Rattle.std.specs.List.{range_with_len}
use Rattle.std.proofs.lemmas.Bool.{and_parts}
use Rattle.ct_words.specs.declared.limits.TheConstants.{MAX_N}
use Rattle.ct_words.proofs.Counting.Words.{Contains-map}
use Rattle.ct_words.specs.declared.entry.Entry.{Entry}
use Rattle.ct_words.specs.declared.claim.Side.TheVariants.{Lower}
use Rattle.ct_words.specs.Entry.{is_entry, unrestricted}
use Rattle.ct_words.proofs.EntryLemmas.{entry_limits}
use Rattle.ct_rule_parts.specs.declared.support.Support.{Support}
use Rattle.ct_rule_parts.specs.Parts.{first, second}
use Rattle.ct_rule_parts.proofs.Constructions.{HasCode-juxtaposed}
use Rattle.ct_words.proofs.InLists.{Contains-range_with_len, Contains-flat_map}
use Rattle.ct_rule_parts.proofs.Lawful.{IsLawful, LeadsBack, both_values, same_number, no_worse-other, first-no_better, second-no_better, defined_entry, defined_condition, defined_premises}
use Rattle.ct_rule_parts.proofs.PlainEntries.{Weightless, no_weight, written, two_items}
use Rattle.ct_rule_parts.proofs.PlainNumbers.{lower_number, of_length, of_distance}
use Rattle.ct_plain_rules.specs.Inside.RestedOn.{by_juxtaposition}
use Rattle.ct_plain_rules.specs.Juxtaposition.{juxtaposition}

-- an entry without weight that is longer, and farther by 3 or more, is among those
far_entry : (m d : ℕ) (e : Entry) → Weightless e → e.n ≤ MAX_N → e.d ≤ MAX_N → m < e.n → d + 3 ≤ e.d
    → Contains (by_juxtaposition (unrestricted m d)) e
far_entry m d e none long far longer farther =
    subst (λ f. Contains (by_juxtaposition (unrestricted m d)) f) (written e.n e.d e none refl refl)
    (Contains-flat_map (λ n. map (λ c. unrestricted n c) (range_with_len (d + 3) (MAX_N - (d + 2))))
    (range_with_len (m + 1) (MAX_N - m)) e.n (unrestricted e.n e.d)
    (Contains-range_with_len (m + 1) (MAX_N - m) e.n (omega arith) (omega arith))
    (Contains-map (λ c. unrestricted e.n c) (range_with_len (d + 3) (MAX_N - (d + 2))) e.d
    (Contains-range_with_len (d + 3) (MAX_N - (d + 2)) e.d farther (omega arith))))

pub juxtaposition-lawful : (m d : ℕ) (c : Option Support) → IsLawful c (juxtaposition m d)
juxtaposition-lawful m d c = record {
  sound = λ e vs x stand entry plain known is.
      let both = both_values _ _ vs known in
      let left = entry_limits (unrestricted m d) both.0.entry in
      let right = entry_limits (unrestricted (e.n - m) (e.d - d)) both.1.entry in
      let long : m + (e.n - m) ≡ e.n = omega (arith, right.length_from) in
      let far : d + (e.d - d) ≡ e.d = omega (arith, right.distance_from) in
      let some = both.0.range.0 in
      let some_too = both.1.range.0 in
      same_number Lower e (min (first vs) (second vs)) x is
      (lower_number e (min (first vs) (second vs)) (no_weight e plain) (omega arith)
      (of_length (m + (e.n - m)) e.n e.d (min (first vs) (second vs)) long
      (of_distance (m + (e.n - m)) (d + (e.d - d)) e.d (min (first vs) (second vs)) far
      (HasCode-juxtaposed m d (e.n - m) (e.d - d) (first vs) (second vs) both.0.truth both.1.truth))));
  monotone = λ e us vs x h is.
      let worse = first-no_better Lower us vs h in
      let worse_too = second-no_better Lower us vs h in
      no_worse-other Lower (min (first us) (second us)) (min (first vs) (second vs)) x (omega arith) is;
  few = λ e stand entry. omega arith;
}

pub juxtaposition-back : (m d : ℕ) → LeadsBack (juxtaposition m d) by_juxtaposition
juxtaposition-back m d e f defined rests =
    let limits = entry_limits e (defined_entry (juxtaposition m d) e defined) in
    let plain = no_weight e (defined_condition (juxtaposition m d) e defined) in
    let parts = and_parts (is_entry (unrestricted m d)) (is_entry (unrestricted (e.n - m) (e.d - d)) && true)
    (defined_premises (juxtaposition m d) e defined) in
    let left = entry_limits (unrestricted m d) parts.0 in
    let right = entry_limits (unrestricted (e.n - m) (e.d - d))
    (and_parts (is_entry (unrestricted (e.n - m) (e.d - d))) true parts.1).0 in
    two_items (λ g. Contains (by_juxtaposition g) e) (unrestricted m d) (unrestricted (e.n - m) (e.d - d)) f
    (far_entry m d e plain limits.length_to limits.distance_to (omega (arith, right.length_from)) (omega (arith, right.distance_from)))
    (far_entry (e.n - m) (e.d - d) e plain limits.length_to limits.distance_to (omega (arith, left.length_from, right.length_from)) (omega (arith, left.distance_from, right.distance_from)))
    rests

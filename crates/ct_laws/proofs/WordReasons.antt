-- Why words, and cosets, are no code of an entry.
use Rattle.std.proofs.Common.{◌≡◌, ℕ, ◌<◌, ◌≤◌, ◌==◌, ◌||◌, Bool, true, false, cond, nat_lt, ltb-true, arith, ◌∙◌, List, length, slice_index, Option, Some, None, refl, sym, ap, subst, inl, inr, ◌⊎◌}
use Rattle.std.proofs.lemmas.Bool.{ltb-false}
use Rattle.ct_words.specs.Word.{distance}
use Rattle.ct_words.specs.declared.limits.TheConstants.{MAX_N}
use Rattle.ct_words.specs.declared.entry.Entry.{Entry}
use Rattle.ct_words.specs.declared.fault.CodeFault.{CodeFault}
use Rattle.ct_words.specs.declared.fault.CodeFault.TheVariants as code
use Rattle.ct_words.specs.declared.fault.TheConstants.{MAX_WORDS, MAX_REPRESENTATIVES, MAX_COSET_WORK}
use Rattle.ct_words.specs.Check.{code_fault, size_fault, weight_fault, repeated_fault, close_fault}
use Rattle.ct_words.specs.Coset.{coset_fault, coset_size_fault, coset_work_fault, coset_list, coset_work}
use Rattle.ct_words.specs.Pairs.{first_of, least_pair, IsLeastPair, NoPair}
use Rattle.ct_laws.specs.Weights.{HaveWeight, IsFirstOfOtherWeight}
use Rattle.ct_kind.specs.Named.{NamedCode}
use Rattle.ct_kind.specs.declared.fault.SubmitFault.{SubmitFault}
use Rattle.ct_kind.specs.declared.fault.SubmitFault.TheVariants as fault
use Rattle.ct_laws.proofs.Says.{Says, says-also, says-map, says-first, says-count, says-above, says-pair, says-weight}
use Rattle.ct_word_files.specs.WordsKind.{words_kind}
use Rattle.ct_word_files.specs.CosetsKind.{cosets_kind}
use Rattle.ct_laws.specs.WordsRefusal.{HasRightCount, AreDifferent, IsCodeFault, IsWordsRefusal}
use Rattle.ct_laws.specs.CosetsRefusal.{HasRightRepresentatives, HasRightSizes, IsWrongSize, IsCosetFault, IsCosetsRefusal}

-- the least close pair
says-close : (n d : ℕ) (words : List ℕ) → Says (close_fault n d words) (NoPair (λ x y. nat_lt (distance n x y) d) words)
    (λ (f : CodeFault). (p : ℕ × ℕ) × (code.Close p.0 p.1 (distance n (slice_index words p.0) (slice_index words p.1)) ≡ f) × IsLeastPair (λ x y. nat_lt (distance n x y) d) words p.0 p.1)
says-close n d words =
    says-map (λ (p : ℕ × ℕ). code.Close p.0 p.1 (distance n (slice_index words p.0) (slice_index words p.1))) (least_pair (λ x y. nat_lt (distance n x y) d) words)
    (says-pair (λ x y. nat_lt (distance n x y) d) words)

-- words against which there is no reason
pub record AreRight (e : Entry) (words : List ℕ) : Type 0 where
  pub count : HasRightCount words
  pub weights : HaveWeight e words
  pub different : AreDifferent words
  pub apart : NoPair (λ x y. nat_lt (distance e.n x y) e.d) words

pub says-words : (e : Entry) (words : List ℕ) → Says (code_fault e words) (AreRight e words) (IsCodeFault e words)
unfolding code_fault
says-words e words =
    says-also
    (says-first (size_fault words) (first_of (weight_fault e.n e.w words) (first_of (repeated_fault words) (close_fault e.n e.d words)))
    (says-count (length words) MAX_WORDS (code.Size (length words)))
    (says-first (weight_fault e.n e.w words) (first_of (repeated_fault words) (close_fault e.n e.d words))
    (says-weight e words code.Weight (λ (w : Option ℕ). weight_fault e.n w words) refl (λ w. refl))
    (says-first (repeated_fault words) (close_fault e.n e.d words)
    (says-map (λ (p : ℕ × ℕ). code.Repeated p.0 p.1) (least_pair (λ x y. x == y) words) (says-pair (λ x y. x == y) words))
    (says-close e.n e.d words))))
    (λ h. record { count = h.0; weights = h.1.0; different = h.1.1.0; apart = h.1.1.1 }) (λ h. (h.count, (h.weights, (h.different, h.apart))))
    (λ f h. elim h [
      | inl size ↦ subst (IsCodeFault e words) size.0 (size.1, refl)
      | inr after ↦ elim after.1 [
        | inl other ↦ subst (IsCodeFault e words) other.1 (after.0, other.2)
        | inr later ↦ elim later.1 [
          | inl twice ↦ subst (IsCodeFault e words) twice.1 (after.0, later.0, twice.2)
          | inr last ↦ subst (IsCodeFault e words) last.1.1 (after.0, later.0, last.0, (last.1.2, refl))
        ]
      ]
    ])
    (λ f h. back f h)
  where
    back : (f : CodeFault) → IsCodeFault e words f
        → (◌≡◌ {A = CodeFault} (code.Size (length words)) f × ((length words ≡ 0) ⊎ (MAX_WORDS < length words)))
        ⊎ (HasRightCount words × (((i : ℕ) × ◌≡◌ {A = CodeFault} (code.Weight i) f × IsFirstOfOtherWeight e words i)
        ⊎ (HaveWeight e words × (((p : ℕ × ℕ) × ◌≡◌ {A = CodeFault} (code.Repeated p.0 p.1) f × IsLeastPair (λ x y. x == y) words p.0 p.1)
        ⊎ (AreDifferent words × ((p : ℕ × ℕ) × ◌≡◌ {A = CodeFault} (code.Close p.0 p.1 (distance e.n (slice_index words p.0) (slice_index words p.1))) f
        × IsLeastPair (λ x y. nat_lt (distance e.n x y) e.d) words p.0 p.1))))))
    back (code.Size count) h = inl (ap code.Size (sym h.1), subst (λ (k : ℕ). (k ≡ 0) ⊎ (MAX_WORDS < k)) h.1 h.0)
    back (code.Weight i) h = inr (h.0, inl (i, refl, h.1))
    back (code.Repeated i j) h = inr (h.0, inr (h.1, inl ((i, j), refl, h.2)))
    back (code.Close i j apart) h = inr (h.0, inr (h.1, inr (h.2, ((i, j), ap (code.Close i j) (sym h.3.1), h.3.0))))
    back (code.Work work) h = absurd h
    back code.Memory h = absurd h

-- evidence of kind words
words-back : (e : Entry) (words : List ℕ) (reason : SubmitFault) → IsWordsRefusal e words reason → (f : CodeFault) × ◌≡◌ {A = SubmitFault} (fault.Code f) reason × IsCodeFault e words f
words-back e words (fault.Code f) h = (f, refl, h)
words-back e words reason h = absurd h

pub words-reasons : (known : List NamedCode) (e : Entry) (words : List ℕ) → Says ((words_kind e words).reason known) (AreRight e words) (IsWordsRefusal e words)
words-reasons known e words =
    says-also (says-map fault.Code (code_fault e words) (says-words e words)) (λ right. right) (λ right. right)
    (λ reason h. subst (IsWordsRefusal e words) h.1 h.2) (words-back e words)

-- cosets against which there is no reason
pub record AreRightCosets (e : Entry) (basis representatives : List ℕ) : Type 0 where
  pub sizes : HasRightSizes basis representatives
  pub work : coset_work basis representatives ≤ MAX_COSET_WORK
  pub apart : NoPair (λ x y. nat_lt (distance e.n x y) e.d) (coset_list basis representatives)

-- the number of basis words, or else that of the representatives
says-sizes : (basis representatives : List ℕ) → Says (coset_size_fault basis representatives) (HasRightSizes basis representatives)
    (λ (f : CodeFault). (count : ℕ) × ◌≡◌ {A = CodeFault} (code.Size count) f × IsWrongSize basis representatives count)
says-sizes basis representatives = at (nat_lt MAX_N (length basis)) refl
  where
    reps : Option CodeFault
    reps = cond (length representatives == 0 || nat_lt MAX_REPRESENTATIVES (length representatives)) (Some (code.Size (length representatives))) None

    says-reps : Says reps (HasRightRepresentatives representatives) (λ (f : CodeFault). (code.Size (length representatives) ≡ f) × ((length representatives ≡ 0) ⊎ (MAX_REPRESENTATIVES < length representatives)))
    says-reps = says-count (length representatives) MAX_REPRESENTATIVES (code.Size (length representatives))

    at : (b : Bool) → nat_lt MAX_N (length basis) ≡ b → Says (cond b (Some (code.Size (length basis))) reps) (HasRightSizes basis representatives)
        (λ (f : CodeFault). (count : ℕ) × ◌≡◌ {A = CodeFault} (code.Size count) f × IsWrongSize basis representatives count)
    at true is =
        let many = ltb-true MAX_N (length basis) is in
        record {
          clear = λ none. absurd cc;
          clears = λ right. let few = right.0 in absurd (omega (arith, many, few));
          told = λ f some. (length basis, cc, inl (many, refl));
          tells = λ f h. elim h.2 [
            | inl here ↦ ap Some (ap code.Size (sym here.1) ∙ h.1)
            | inr later ↦ let few = later.0 in absurd (omega (arith, many, few))
          ];
        }
    at false is =
        let few = ltb-false MAX_N (length basis) is in
        says-also says-reps (λ right. (few, right)) (λ right. right.1)
        (λ f h. (length representatives, h.0, inr (few, h.1, refl)))
        (λ f h. elim h.2 [
          | inl here ↦ let size = here.1 in let over = here.0 in absurd (omega (arith, few, size, over))
          | inr later ↦ (ap code.Size (sym later.2) ∙ h.1, subst (λ (k : ℕ). (k ≡ 0) ⊎ (MAX_REPRESENTATIVES < k)) later.2 later.1)
        ])

pub says-cosets : (e : Entry) (basis representatives : List ℕ)
    → Says (coset_fault e basis representatives) (AreRightCosets e basis representatives) (IsCosetFault e basis representatives)
unfolding coset_fault
says-cosets e basis representatives =
    says-also
    (says-first (coset_size_fault basis representatives) (first_of (coset_work_fault basis representatives) (close_fault e.n e.d (coset_list basis representatives)))
    (says-sizes basis representatives)
    (says-first (coset_work_fault basis representatives) (close_fault e.n e.d (coset_list basis representatives))
    (says-above (coset_work basis representatives) MAX_COSET_WORK (code.Work (coset_work basis representatives)))
    (says-close e.n e.d (coset_list basis representatives))))
    (λ h. record { sizes = h.0; work = h.1.0; apart = h.1.1 }) (λ h. (h.sizes, (h.work, h.apart)))
    (λ f h. elim h [
      | inl size ↦ subst (IsCosetFault e basis representatives) size.1 size.2
      | inr after ↦ elim after.1 [
        | inl much ↦ subst (IsCosetFault e basis representatives) much.0 (after.0, much.1, refl)
        | inr last ↦ subst (IsCosetFault e basis representatives) last.1.1 (after.0, last.0, (last.1.2, refl))
      ]
    ])
    (λ f h. back f h)
  where
    back : (f : CodeFault) → IsCosetFault e basis representatives f
        → ((count : ℕ) × ◌≡◌ {A = CodeFault} (code.Size count) f × IsWrongSize basis representatives count)
        ⊎ (HasRightSizes basis representatives × ((◌≡◌ {A = CodeFault} (code.Work (coset_work basis representatives)) f × (MAX_COSET_WORK < coset_work basis representatives))
        ⊎ ((coset_work basis representatives ≤ MAX_COSET_WORK)
        × ((p : ℕ × ℕ) × ◌≡◌ {A = CodeFault} (code.Close p.0 p.1 (distance e.n (slice_index (coset_list basis representatives) p.0) (slice_index (coset_list basis representatives) p.1))) f
        × IsLeastPair (λ x y. nat_lt (distance e.n x y) e.d) (coset_list basis representatives) p.0 p.1))))
    back (code.Size count) h = inl (count, refl, h)
    back (code.Work work) h = inr (h.0, inl (ap code.Work (sym h.2), subst (λ (k : ℕ). MAX_COSET_WORK < k) h.2 h.1))
    back (code.Close i j apart) h = inr (h.0, inr (h.1, ((i, j), ap (code.Close i j) (sym h.2.1), h.2.0)))
    back (code.Weight i) h = absurd h
    back (code.Repeated i j) h = absurd h
    back code.Memory h = absurd h

-- evidence of kind cosets
cosets-back : (e : Entry) (basis representatives : List ℕ) (reason : SubmitFault) → IsCosetsRefusal e basis representatives reason
    → (f : CodeFault) × ◌≡◌ {A = SubmitFault} (fault.Code f) reason × IsCosetFault e basis representatives f
cosets-back e basis representatives (fault.Code f) h = (f, refl, h)
cosets-back e basis representatives reason h = absurd h

pub cosets-reasons : (known : List NamedCode) (e : Entry) (basis representatives : List ℕ)
    → Says ((cosets_kind e basis representatives).reason known) (AreRightCosets e basis representatives) (IsCosetsRefusal e basis representatives)
cosets-reasons known e basis representatives =
    says-also (says-map fault.Code (coset_fault e basis representatives) (says-cosets e basis representatives)) (λ right. right) (λ right. right)
    (λ reason h. subst (IsCosetsRefusal e basis representatives) h.1 h.2) (cosets-back e basis representatives)

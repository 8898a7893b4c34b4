use Rattle.std.proofs.Common.{ap₂, ◌∙◌, ℕ, List, subst, sym, arith}
use Rattle.ct_words.specs.Coset.{CosetValue, IsSoundCosetCode}
use Rattle.ct_words.proofs.EntryLemmas.{entry_limits}
use Rattle.ct_codes.proofs.CosetLemmas.{cosets_from_no_fault}
use Rattle.ct_word_files.proofs.CosetsKind.{listed_answer}
use Rattle.ct_word_files.proofs.cosets_kind.code.Goals as goal

pub from_checked-requires : goal.from_checked-requires
from_checked-requires c =
    let e = c.args.entry in
    let basis = c.args.basis.now in
    let representatives = c.args.representatives.now in
    let limits = entry_limits e c.requires.entry in
    let far = limits.distance_from in
    let whole = cosets_from_no_fault e basis representatives (omega arith) c.requires.plain c.requires.basis c.requires.representatives c.requires.faultless in
    let checked : IsSoundCosetCode (record { entry = e; basis = basis; representatives = representatives }) = record {
      entry = c.requires.entry;
      unweighted = c.requires.plain;
      basis_words = c.requires.basis;
      representative_words = c.requires.representatives;
      basis_size = whole.0;
      representative_size = (whole.1, whole.2);
      work = whole.3;
      code = whole.4;
    } in
    let at : List ℕ → List ℕ → CosetValue = λ (b r : List ℕ). record { entry = e; basis = b; representatives = r } in
    record { code = subst IsSoundCosetCode (sym (ap₂ at c.in_ok-basis.ensures.items c.in_ok-representatives.ensures.items)) checked }

pub returns : goal.returns
returns c =
    let at : List ℕ → List ℕ → CosetValue = λ (b r : List ℕ). record { entry = c.args.entry; basis = b; representatives = r } in
    let value = c.from_checked.ensures.value ∙ ap₂ at c.in_ok-basis.ensures.items c.in_ok-representatives.ensures.items in
    listed_answer c.args.entry c.args.basis.now c.args.representatives.now c.from_checked.result c.list-2.result value c.requires.plain c.list-2.ensures.words c.list-2.ensures.entry c.list-2.ensures.sound

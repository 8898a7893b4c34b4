use Rattle.ct_duals.specs.Dual.{IsWordOf, index_of, degree_of}
use Rattle.ct_duals.proofs.DualBound.{dual_bound-true}
use Rattle.ct_words.specs.Numbers.{numbers_of}
use Rattle.ct_duals.proofs.SchemesOfEntries.{laws_of, fits_of}
use Rattle.ct_laws.proofs.math.delsarte.duals_bound_codes.Goals as goal

pub returns : goal.returns
returns c = λ dual uppers form none known.
    let e = dual.entry in
    dual_bound-true (IsWordOf e) (index_of e) (degree_of e) (numbers_of e) dual (laws_of e.n e.w) (fits_of e) form none uppers known

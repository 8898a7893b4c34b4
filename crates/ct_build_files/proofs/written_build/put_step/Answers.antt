use Rattle.std.proofs.Common.{ℕ, ◌<◌, pos, List, All, sym, subst}
use Rattle.toml.specs.Data.{integer}
use Rattle.toml.specs.View.{view, table_view}
use Rattle.ct_build.specs.declared.step.Step.TheVariants.{Translate, Select, Trim}
use Rattle.ct_fields.specs.declared.field.FieldName.TheVariants.{Size}
use Rattle.ct_build_files.proofs.PutFields.{put_same, put_as, put_punctured, put_shortened, put_none, digits_fit, translated_fits, selected_fits}
use Rattle.ct_build_files.proofs.written_build.put_step.Goals as goal

pub put_digits-requires : goal.put_digits-requires
put_digits-requires c =
    subst (λ (ds : List ℕ). All (λ a. a < 2) ds) (sym c.as_slice-in-Shorten-2.ensures)
    (digits_fit c.args.step.now c.args.stated c.in-Shorten.places c.in-Shorten.digits c.in-Shorten.is c.requires.fits)

pub put_by-requires-in-Select-clause-word : goal.put_by-requires-in-Select-clause-word
put_by-requires-in-Select-clause-word c = selected_fits c.args.step.now c.args.stated c.in-Select.by c.in-Select.is c.requires.fits

pub put_by-requires-clause-word : goal.put_by-requires-clause-word
put_by-requires-clause-word c = translated_fits c.args.step.now c.args.stated c.in-Translate.by c.in-Translate.is c.requires.fits

pub returns-in-Puncture : goal.returns-in-Puncture
returns-in-Puncture c =
    put_punctured c.put_places.result c.args.step.now c.args.stated.n c.in-Puncture.places c.as_slice.result.now (table_view c.args.table.now)
    (table_view c.put_places.new.table) c.in-Puncture.is c.as_slice.ensures c.put_places.ensures

pub returns-in_ok-put_places-in-Shorten : goal.returns-in_ok-put_places-in-Shorten
returns-in_ok-put_places-in-Shorten c =
    put_shortened c.put_digits.result c.args.step.now c.args.stated.n c.in-Shorten.places c.in-Shorten.digits c.as_slice-in-Shorten.result.now
    c.as_slice-in-Shorten-2.result.now (table_view c.args.table.now) (table_view c.put_places-in-Shorten.new.table) (table_view c.put_digits.new.table)
    c.in-Shorten.is c.as_slice-in-Shorten.ensures c.as_slice-in-Shorten-2.ensures c.in_ok-put_places-in-Shorten.ensures c.put_digits.ensures

pub returns-in-Translate : goal.returns-in-Translate
returns-in-Translate c =
    put_as c.put_by.result c.args.step.now (Translate c.in-Translate.by) c.args.stated.n (table_view c.args.table.now) (table_view c.put_by.new.table)
    c.in-Translate.is c.put_by.ensures

pub returns-in-Select : goal.returns-in-Select
returns-in-Select c =
    put_as c.put_by-in-Select.result c.args.step.now (Select c.in-Select.by) c.args.stated.n (table_view c.args.table.now)
    (table_view c.put_by-in-Select.new.table) c.in-Select.is c.put_by-in-Select.ensures

pub returns-in-Trim : goal.returns-in-Trim
returns-in-Trim c =
    let old = table_view c.args.table.now in
    let new = table_view c.put.new.table in
    put_as c.put.result c.args.step.now (Trim c.in-Trim.size) c.args.stated.n old new c.in-Trim.is
    (put_same c.put.result Size (view c.from.result) (integer (pos c.in-Trim.size)) old new c.from.ensures c.put.ensures)

pub returns-in_default : goal.returns-in_default
returns-in_default c =
    let h = c.in_default in
    put_none c.args.step.now c.args.stated.n (table_view c.args.table.now) h.not-Puncture h.not-Shorten h.not-Translate h.not-Select h.not-Trim

use Rattle.std.proofs.Common.{rules}
use Rattle.toml.specs.View.{view}
use Rattle.ct_build_files.proofs.ReadSteps.{punctured, shortened, translated, selected}
use Rattle.ct_build_files.proofs.build.with_step.Goals as goal

pub returns-in_ok-places_field-in-Puncture : goal.returns-in_ok-places_field-in-Puncture
returns-in_ok-places_field-in-Puncture c =
    let places = c.in_ok-places_field-in-Puncture.field-0 in
    punctured c.args.entry c.args.operation (view c.args.document.now) c.with_parts-in-Puncture.result places.items c.from_vec-places.result
    c.in-Puncture.is c.in_ok-places_field-in-Puncture.ensures c.from_vec-places.ensures c.with_parts-in-Puncture.ensures

pub returns-in_ok-found-in-Shorten : goal.returns-in_ok-found-in-Shorten
returns-in_ok-found-in-Shorten c =
    let places = c.in_ok-places-in-Shorten.places in
    shortened c.args.entry c.args.operation (view c.args.document.now) c.with_parts-in-Shorten.result places.items c.in_ok-text-in-Shorten.text.now
    c.in_ok-found-in-Shorten.found c.in-Shorten.is c.in_ok-places-in-Shorten.ensures c.in_ok-text-in-Shorten.ensures
    c.in_ok-found-in-Shorten.ensures c.with_parts-in-Shorten.ensures

pub returns-in_ok-by-in-Translate : goal.returns-in_ok-by-in-Translate
returns-in_ok-by-in-Translate c =
    translated c.args.entry c.args.operation (view c.args.document.now) c.with_parts-in-Translate.result c.in_ok-by-in-Translate.by.now c.map.result
    c.in-Translate.is c.in_ok-by-in-Translate.ensures (search rules) c.with_parts-in-Translate.ensures

pub returns-in_ok-by-in-Select : goal.returns-in_ok-by-in-Select
returns-in_ok-by-in-Select c =
    selected c.args.entry c.args.operation (view c.args.document.now) c.with_parts-in-Select.result c.in_ok-by-in-Select.by.now c.map-in-Select.result
    c.in-Select.is c.in_ok-by-in-Select.ensures (search rules) c.with_parts-in-Select.ensures

use Rattle.std.proofs.Common.{sym, ap, ◌∙◌}
use Rattle.ct_build_files.specs.Operation.{operation_named}
use Rattle.ct_build_files.specs.declared.operation.Operation.TheVariants.{Shorten, Translate, Complement, Select, Uuv, Juxtapose, Trim}
use Rattle.ct_build_files.proofs.BuildFields.{operation_named-text, operation_named-none}
use Rattle.ct_build_files.proofs.operation.Operation.named.Goals as goal

pub returns-in-shorten : goal.returns-in-shorten
returns-in-shorten c = sym (ap operation_named c.in-shorten.is ∙ operation_named-text Shorten)

pub returns-in-translate : goal.returns-in-translate
returns-in-translate c = sym (ap operation_named c.in-translate.is ∙ operation_named-text Translate)

pub returns-in-complement : goal.returns-in-complement
returns-in-complement c = sym (ap operation_named c.in-complement.is ∙ operation_named-text Complement)

pub returns-in-select : goal.returns-in-select
returns-in-select c = sym (ap operation_named c.in-select.is ∙ operation_named-text Select)

pub returns-in-uuv : goal.returns-in-uuv
returns-in-uuv c = sym (ap operation_named c.in-uuv.is ∙ operation_named-text Uuv)

pub returns-in-juxtapose : goal.returns-in-juxtapose
returns-in-juxtapose c = sym (ap operation_named c.in-juxtapose.is ∙ operation_named-text Juxtapose)

pub returns-in-trim : goal.returns-in-trim
returns-in-trim c = sym (ap operation_named c.in-trim.is ∙ operation_named-text Trim)

pub returns-in_default : goal.returns-in_default
returns-in_default c =
    let h = c.in_default in
    sym (operation_named-none c.args.text.now (
      h.not-lengthen,
      (
        h.not-append_one,
        (
          h.not-parity,
          (
            h.not-puncture,
            (
              h.not-shorten,
              (
                h.not-translate,
                (h.not-complement, (h.not-select, (h.not-uuv, (h.not-juxtapose, (h.not-trim, tt))))),
              ),
            ),
          ),
        ),
      ),
    ))

use Rattle.ct_laws.proofs.devices.shown_primals_are_small.Goals as goal

pub returns : goal.returns
returns c = record { mark = λ p d h. h.even; scale = λ p d h. h.scale; numbers = λ p d h. h.numbers }

use Rattle.ct_sum_classes.proofs.SumClasses.{word_of_class, class_of_word}
use Rattle.ct_laws.proofs.math.sum_classes.words_of_sum_classes.Goals as goal

pub returns : goal.returns
returns c = λ n w r x. (word_of_class n w r x, λ h. class_of_word n w r x h.0 h.1 h.2)

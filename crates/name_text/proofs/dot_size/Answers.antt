use Rattle.name_text.proofs.Laying.{flags, flags_fit, flags_most, dot_length}
use Rattle.name_text.proofs.dot_size.Goals as goal

pub overflow_mul-result : goal.overflow_mul-result
overflow_mul-result c = search flags_fit

pub overflow_mul-result-2 : goal.overflow_mul-result-2
overflow_mul-result-2 c = search (flags_fit, flags_most)

pub overflow_mul-result-3 : goal.overflow_mul-result-3
overflow_mul-result-3 c = search (flags_fit, flags_most)

pub returns : goal.returns
returns c = (search (dot_length, flags), search flags_most)

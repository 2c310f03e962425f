use Rattle.line_letters.proofs.Letters.{each_alone}
use Rattle.line_letters.proofs.only_letter.Goals as goal

pub returns : goal.returns
returns c = search each_alone depth 40 fits 10000

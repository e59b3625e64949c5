use Rattle.sp_examples.proofs.ImageLemmas.{image_law}
use Rattle.sp_examples.proofs.laws.images_lie_in_memory.Goals as goal

pub returns : goal.returns
returns c = image_law

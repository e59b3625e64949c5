use Rattle.sp_asm.proofs.ListingLemmas.{code_stands, codes_apart}
use Rattle.sp_asm.proofs.laws.images_hold_their_items.Goals as goal

pub returns : goal.returns
returns c = record {
  codes = λ image items front back item i holds. code_stands image items holds front back item i;
  apart = λ image items front between back one other i j holds. codes_apart image items holds front between back one other i j;
}

use Rattle.sp_asm.proofs.ListingLemmas.{numbers_of, rising_lines, holds_items}
use Rattle.sp_asm.proofs.laws.listings_hold_their_items.Goals as goal

pub returns : goal.returns
returns c = record { lines = numbers_of; rising = rising_lines; bytes = holds_items }

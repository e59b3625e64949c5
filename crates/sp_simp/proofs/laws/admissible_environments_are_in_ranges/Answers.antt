use Rattle.sp_simp.proofs.laws.admissible_environments_are_in_ranges.Goals as goal

pub returns : goal.returns
returns c image stack changes e h = record { range = h.range; memory = h.memory }

-- Every step keeps truth.
use Rattle.sp_steps.specs.Steps.{Step, Close, Simp, Split, Intro, OneSide, Unpack, UseBoth, CasesOf, CasesOn, Cut, Fix, At, Give, Pick, Induct, Rewrite, Linear, DivMod, Range, Read, Rom, Frame, Bits, BitOf, Choose, Empty, Last, Over}
use Rattle.sp_rules_laws.specs.Truth.{KeepsTruth}
use Rattle.sp_rules_laws.proofs.LogicLemmas.{close_keeps, split_keeps, intro_keeps, side_keeps, unpack_keeps, use_keeps, cases_of_keeps, cases_on_keeps, cut_keeps}
use Rattle.sp_rules_laws.proofs.NumberLemmas.{simp_keeps, linear_keeps, range_keeps, read_keeps, choose_keeps}
use Rattle.sp_rules_laws.proofs.QuantifierLemmas.{fix_keeps, at_keeps, give_keeps, pick_keeps, induct_keeps}
use Rattle.sp_rules_laws.proofs.RewriteLemmas.{rewrite_keeps}
use Rattle.sp_rules_laws.proofs.SumLemmas.{divmod_keeps, empty_keeps, last_keeps, over_keeps}
use Rattle.sp_rules_laws.proofs.CellLemmas.{rom_keeps, frame_keeps}
use Rattle.sp_rules_laws.proofs.BitLemmas.{bits_keeps, bitof_keeps}

pub steps_keep : (step : Step) → KeepsTruth step
steps_keep (Close k) = close_keeps k
steps_keep (Simp k) = simp_keeps k
steps_keep Split = split_keeps
steps_keep Intro = intro_keeps
steps_keep (OneSide s) = side_keeps s
steps_keep (Unpack k) = unpack_keeps k
steps_keep (UseBoth k j) = use_keeps k j
steps_keep (CasesOf k) = cases_of_keeps k
steps_keep (CasesOn p) = cases_on_keeps p
steps_keep (Cut p) = cut_keeps p
steps_keep Fix = fix_keeps
steps_keep (At k t) = at_keeps k t
steps_keep (Give t) = give_keeps t
steps_keep (Pick k) = pick_keeps k
steps_keep Induct = induct_keeps
steps_keep (Rewrite k j back) = rewrite_keeps k j back
steps_keep (Linear n numbers) = linear_keeps n numbers
steps_keep (DivMod t c) = divmod_keeps t c
steps_keep (Range t) = range_keeps t
steps_keep (Read t) = read_keeps t
steps_keep (Rom m c image) = rom_keeps m c image
steps_keep (Frame m t) = frame_keeps m t
steps_keep (Bits t) = bits_keeps t
steps_keep (BitOf k t) = bitof_keeps k t
steps_keep (Choose t) = choose_keeps t
steps_keep (Empty t) = empty_keeps t
steps_keep (Last t) = last_keeps t
steps_keep (Over t) = over_keeps t

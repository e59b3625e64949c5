-- A part in a pool that grows.
use Rattle.std.proofs.Common.{◌≡◌, refl, arith, List, length}
use Rattle.sp_term.specs.Tree.{Tree}
use Rattle.sp_term.specs.Pools.{Grows}
use Rattle.sp_simp.specs.declared.step.Part.{Part}
use Rattle.sp_simp.specs.declared.step.Part.TheVariants as part
use Rattle.sp_simp.specs.code.Plans.{part_tree, IsPartWithin}

pub part_grown : (old new : List Tree) → Grows old new → (p : Part) → IsPartWithin (length old) p → part_tree new p ≡ part_tree old p
part_grown old new g (part.Have n) h = g.same n.0 h
part_grown old new g (part.Number c) h = refl
part_grown old new g (part.Truth b) h = refl

pub part_within : (old new : List Tree) → Grows old new → (p : Part) → IsPartWithin (length old) p → IsPartWithin (length new) p
part_within old new g (part.Have n) h = omega (arith, g.longer)
part_within old new g (part.Number c) h = tt
part_within old new g (part.Truth b) h = tt

pub ruleset parts = (part_grown, part_within)

-- What holds for each value of a type.
use Rattle.sp_base.specs.declared.location.Reg.{Reg}
use Rattle.sp_base.specs.declared.location.Reg.TheVariants as reg
use Rattle.sp_base.specs.declared.location.Loc.{Loc}
use Rattle.sp_base.specs.declared.location.Loc.TheVariants as loc
use Rattle.sp_base.specs.declared.pair.Pair.{Pair}
use Rattle.sp_base.specs.declared.pair.Pair.TheVariants as pair
use Rattle.sp_isa.specs.declared.instr.Arg.{Arg}
use Rattle.sp_isa.specs.declared.instr.Arg.TheVariants as arg
use Rattle.sp_isa.specs.declared.instr.StackPair.{StackPair}
use Rattle.sp_isa.specs.declared.instr.StackPair.TheVariants as stack
use Rattle.sp_isa.specs.declared.instr.Cond.{Cond}
use Rattle.sp_isa.specs.declared.instr.Cond.TheVariants as when
use Rattle.sp_isa.specs.declared.instr.Op.{Op}
use Rattle.sp_isa.specs.declared.instr.Op.TheVariants as op

pub each_reg : (P : Reg → Type 0) → P reg.B → P reg.C → P reg.D → P reg.E → P reg.H → P reg.L → P reg.A → (x : Reg) → P x
each_reg P p0 p1 p2 p3 p4 p5 p6 reg.B = p0
each_reg P p0 p1 p2 p3 p4 p5 p6 reg.C = p1
each_reg P p0 p1 p2 p3 p4 p5 p6 reg.D = p2
each_reg P p0 p1 p2 p3 p4 p5 p6 reg.E = p3
each_reg P p0 p1 p2 p3 p4 p5 p6 reg.H = p4
each_reg P p0 p1 p2 p3 p4 p5 p6 reg.L = p5
each_reg P p0 p1 p2 p3 p4 p5 p6 reg.A = p6

pub each_loc : (P : Loc → Type 0) → P loc.A → P loc.B → P loc.C → P loc.D → P loc.E → P loc.H → P loc.L → P loc.S → P loc.Z → P loc.Ac → P loc.P → P loc.Cy → (x : Loc) → P x
each_loc P p0 p1 p2 p3 p4 p5 p6 p7 p8 p9 p10 p11 loc.A = p0
each_loc P p0 p1 p2 p3 p4 p5 p6 p7 p8 p9 p10 p11 loc.B = p1
each_loc P p0 p1 p2 p3 p4 p5 p6 p7 p8 p9 p10 p11 loc.C = p2
each_loc P p0 p1 p2 p3 p4 p5 p6 p7 p8 p9 p10 p11 loc.D = p3
each_loc P p0 p1 p2 p3 p4 p5 p6 p7 p8 p9 p10 p11 loc.E = p4
each_loc P p0 p1 p2 p3 p4 p5 p6 p7 p8 p9 p10 p11 loc.H = p5
each_loc P p0 p1 p2 p3 p4 p5 p6 p7 p8 p9 p10 p11 loc.L = p6
each_loc P p0 p1 p2 p3 p4 p5 p6 p7 p8 p9 p10 p11 loc.S = p7
each_loc P p0 p1 p2 p3 p4 p5 p6 p7 p8 p9 p10 p11 loc.Z = p8
each_loc P p0 p1 p2 p3 p4 p5 p6 p7 p8 p9 p10 p11 loc.Ac = p9
each_loc P p0 p1 p2 p3 p4 p5 p6 p7 p8 p9 p10 p11 loc.P = p10
each_loc P p0 p1 p2 p3 p4 p5 p6 p7 p8 p9 p10 p11 loc.Cy = p11

pub each_arg : (P : Arg → Type 0) → P (arg.Reg reg.B) → P (arg.Reg reg.C) → P (arg.Reg reg.D) → P (arg.Reg reg.E) → P (arg.Reg reg.H) → P (arg.Reg reg.L) → P arg.M → P (arg.Reg reg.A) → (x : Arg) → P x
each_arg P p0 p1 p2 p3 p4 p5 p6 p7 (arg.Reg reg.B) = p0
each_arg P p0 p1 p2 p3 p4 p5 p6 p7 (arg.Reg reg.C) = p1
each_arg P p0 p1 p2 p3 p4 p5 p6 p7 (arg.Reg reg.D) = p2
each_arg P p0 p1 p2 p3 p4 p5 p6 p7 (arg.Reg reg.E) = p3
each_arg P p0 p1 p2 p3 p4 p5 p6 p7 (arg.Reg reg.H) = p4
each_arg P p0 p1 p2 p3 p4 p5 p6 p7 (arg.Reg reg.L) = p5
each_arg P p0 p1 p2 p3 p4 p5 p6 p7 arg.M = p6
each_arg P p0 p1 p2 p3 p4 p5 p6 p7 (arg.Reg reg.A) = p7

pub each_pair : (P : Pair → Type 0) → P pair.B → P pair.D → P pair.H → P pair.Sp → (x : Pair) → P x
each_pair P p0 p1 p2 p3 pair.B = p0
each_pair P p0 p1 p2 p3 pair.D = p1
each_pair P p0 p1 p2 p3 pair.H = p2
each_pair P p0 p1 p2 p3 pair.Sp = p3

pub each_stack : (P : StackPair → Type 0) → P stack.B → P stack.D → P stack.H → P stack.Psw → (x : StackPair) → P x
each_stack P p0 p1 p2 p3 stack.B = p0
each_stack P p0 p1 p2 p3 stack.D = p1
each_stack P p0 p1 p2 p3 stack.H = p2
each_stack P p0 p1 p2 p3 stack.Psw = p3

pub each_cond : (P : Cond → Type 0) → P when.Nz → P when.Z → P when.Nc → P when.C → P when.Po → P when.Pe → P when.P → P when.M → (x : Cond) → P x
each_cond P p0 p1 p2 p3 p4 p5 p6 p7 when.Nz = p0
each_cond P p0 p1 p2 p3 p4 p5 p6 p7 when.Z = p1
each_cond P p0 p1 p2 p3 p4 p5 p6 p7 when.Nc = p2
each_cond P p0 p1 p2 p3 p4 p5 p6 p7 when.C = p3
each_cond P p0 p1 p2 p3 p4 p5 p6 p7 when.Po = p4
each_cond P p0 p1 p2 p3 p4 p5 p6 p7 when.Pe = p5
each_cond P p0 p1 p2 p3 p4 p5 p6 p7 when.P = p6
each_cond P p0 p1 p2 p3 p4 p5 p6 p7 when.M = p7

pub each_op : (P : Op → Type 0) → P op.Add → P op.Adc → P op.Sub → P op.Sbb → P op.Ana → P op.Xra → P op.Ora → P op.Cmp → (x : Op) → P x
each_op P p0 p1 p2 p3 p4 p5 p6 p7 op.Add = p0
each_op P p0 p1 p2 p3 p4 p5 p6 p7 op.Adc = p1
each_op P p0 p1 p2 p3 p4 p5 p6 p7 op.Sub = p2
each_op P p0 p1 p2 p3 p4 p5 p6 p7 op.Sbb = p3
each_op P p0 p1 p2 p3 p4 p5 p6 p7 op.Ana = p4
each_op P p0 p1 p2 p3 p4 p5 p6 p7 op.Xra = p5
each_op P p0 p1 p2 p3 p4 p5 p6 p7 op.Ora = p6
each_op P p0 p1 p2 p3 p4 p5 p6 p7 op.Cmp = p7

-- Control leaves each instruction as the processor goes on.
use Rattle.std.proofs.Common.{◌≢◌, refl}
use Rattle.sp_graph.specs.Control.{control_of}
use Rattle.sp_graph_laws.specs.Control.{Leaves}
use Rattle.sp_isa.specs.declared.instr.Instr.{Instr}
use Rattle.sp_isa.specs.declared.instr.Instr.TheVariants.{Mov, Mvi, Inr, Dcr, Alu, AluImmediate, Lxi, Dad, Inx, Dcx, Stax, Ldax, Shld, Lhld, Sta, Lda, Rlc, Rrc, Ral, Rar, Daa, Cma, Stc, Cmc, Push, Pop, Jmp, Jcc, Call, Ccc, Ret, Rcc, Rst, Pchl, Sphl, Xthl, Xchg, In, Out, Nop, Ei, Di, Hlt}

pub follows : (i : Instr) → i ≢ Pchl → Leaves i (control_of i)
follows (Mov to from) other = λ core. refl
follows (Mvi to n) other = λ core. refl
follows (Inr y) other = λ core. refl
follows (Dcr y) other = λ core. refl
follows (Alu o y) other = λ core. refl
follows (AluImmediate o n) other = λ core. refl
follows (Lxi p w) other = λ core. refl
follows (Dad p) other = λ core. refl
follows (Inx p) other = λ core. refl
follows (Dcx p) other = λ core. refl
follows (Stax p) other = λ core. refl
follows (Ldax p) other = λ core. refl
follows (Shld w) other = λ core. refl
follows (Lhld w) other = λ core. refl
follows (Sta w) other = λ core. refl
follows (Lda w) other = λ core. refl
follows Rlc other = λ core. refl
follows Rrc other = λ core. refl
follows Ral other = λ core. refl
follows Rar other = λ core. refl
follows Daa other = λ core. refl
follows Cma other = λ core. refl
follows Stc other = λ core. refl
follows Cmc other = λ core. refl
follows (Push p) other = λ core. refl
follows (Pop p) other = λ core. refl
follows Sphl other = λ core. refl
follows Xthl other = λ core. refl
follows Xchg other = λ core. refl
follows (In n) other = λ core. refl
follows (Out n) other = λ core. refl
follows Nop other = λ core. refl
follows Ei other = λ core. refl
follows Di other = λ core. refl
follows (Jmp w) other = λ core. (refl, refl)
follows (Jcc when w) other = (when, λ core. (refl, refl))
follows (Call w) other = λ core. (refl, refl)
follows (Ccc when w) other = (when, λ core. (refl, refl))
follows (Rst n) other = λ core. (refl, refl)
follows Ret other = λ core. (refl, refl)
follows (Rcc when) other = (when, λ core. (refl, refl))
follows Pchl other = absurd (other refl)
follows Hlt other = λ core. refl

-- Where runs start.
use Rattle.std.proofs.Common.{◌≡◌, ℕ, ◌%◌, ◌<◌, false, List, [], ◌∷◌, ◌++◌, length, replicate, Some, None, refl, sym, ap, ◌∙◌, arith}
use Rattle.std.specs.Prelude.{All, option_to_list}
use Rattle.std.specs.FinMap as maps
use Rattle.std.specs.Ordering.{nat_cmp}
use Rattle.std.proofs.lemmas.List.{get_or-set_same, length-replicate}
use Rattle.std.proofs.lemmas.List.Elements.{All-get_or, All-replicate, filter_map-append}
use Rattle.std.proofs.lemmas.List.Sums.{fold-append}
use Rattle.sp_base.specs.Image.{ImageMap}
use Rattle.sp_base.specs.declared.location.Loc.{Loc}
use Rattle.sp_base.specs.declared.location.Loc.TheVariants as loc
use Rattle.sp_base.specs.declared.location.Reg.{Reg}
use Rattle.sp_base.specs.declared.location.Reg.TheVariants as reg
use Rattle.sp_base.specs.declared.pair.Pair.{Pair}
use Rattle.sp_base.specs.declared.pair.Pair.TheVariants as pair
use Rattle.sp_isa.specs.Core.{Core, IsBlank, at, cell, reg_of, with_cell, with_flag, with_pc, with_reg, with_sp}
use Rattle.sp_isa.specs.Operands.{pair_of, with_pair}
use Rattle.sp_hex.specs.Load.{IsLoaded}
use Rattle.sp_model.specs.State.{State}
use Rattle.sp_run.specs.declared.settings.Setting.{Setting}
use Rattle.sp_run.specs.declared.settings.Setting.TheVariants as setting
use Rattle.sp_run.specs.Start.{IsStart, input_of, inputs_of, with_setting}
use Rattle.sp_run_laws.specs.Runs.{HasImageAlone, SetsItsValue, StartsWithImage, options}

-- ---- All is 0

-- a memory of zeros
zeros : List ℕ
zeros = replicate 65536 0

zeros_length : length zeros ≡ 65536
unfolding zeros
zeros_length = length-replicate {A = ℕ} 65536 0

zeros_are : All (λ byte. byte ≡ 0) zeros
unfolding zeros
zeros_are = All-replicate (λ byte. byte ≡ 0) 65536 0 refl

abbrev blank : Core
blank = record {
  b = 0;
  c = 0;
  d = 0;
  e = 0;
  h = 0;
  l = 0;
  a = 0;
  s = 0;
  z = 0;
  ac = 0;
  p = 0;
  cy = 0;
  sp = 0;
  pc = 0;
  halted =
      false;
  cells = zeros;
}

blank_at : (x : Loc) → at x blank ≡ 0
blank_at loc.A = refl
blank_at loc.B = refl
blank_at loc.C = refl
blank_at loc.D = refl
blank_at loc.E = refl
blank_at loc.H = refl
blank_at loc.L = refl
blank_at loc.S = refl
blank_at loc.Z = refl
blank_at loc.Ac = refl
blank_at loc.P = refl
blank_at loc.Cy = refl

blank_is : IsBlank blank
blank_is = record { locations = blank_at; sp = refl; pc = refl; running = refl; memory = zeros_length; bytes = zeros_are }

none_some : (byte : ℕ) → None ≡ Some byte → ⊥
none_some byte e = cc

nothing_loaded : (a byte : ℕ) → maps.get (maps.empty {X = ℕ} {R = nat_cmp}) a ≡ Some byte → cell a blank ≡ byte
nothing_loaded a byte e = absurd (none_some byte (sym (maps.get-empty nat_cmp a) ∙ e))

loads_nothing : IsLoaded maps.empty blank blank
loads_nothing = record { there = nothing_loaded; kept = λ a low none. refl; same_length = refl; others = refl }

-- ---- The image

at_cells : (x : Loc) (core : Core) (cells : List ℕ) → at x (record core { cells = cells }) ≡ at x core
at_cells loc.A core cells = refl
at_cells loc.B core cells = refl
at_cells loc.C core cells = refl
at_cells loc.D core cells = refl
at_cells loc.E core cells = refl
at_cells loc.H core cells = refl
at_cells loc.L core cells = refl
at_cells loc.S core cells = refl
at_cells loc.Z core cells = refl
at_cells loc.Ac core cells = refl
at_cells loc.P core cells = refl
at_cells loc.Cy core cells = refl

alone : (image : ImageMap) (s : State) → IsStart image (options None []) s → HasImageAlone image s
alone image s h =
    let k = h.core in
    record {
      locations = λ x. ap (at x) k.set ∙ ap (at x) k.has_image.others ∙ at_cells x k.blank k.loaded.cells ∙ k.all_zero.locations x;
      sp = ap (λ (c : Core). c.sp) k.set ∙ ap (λ (c : Core). c.sp) k.has_image.others ∙ k.all_zero.sp;
      pc = ap (λ (c : Core). c.pc) k.set ∙ ap (λ (c : Core). c.pc) k.has_image.others ∙ k.all_zero.pc;
      running = ap (λ (c : Core). c.halted) k.set ∙ ap (λ (c : Core). c.halted) k.has_image.others ∙ k.all_zero.running;
      memory = ap (λ (c : Core). length c.cells) k.set ∙ k.has_image.same_length ∙ k.all_zero.memory;
      bytes = λ a byte there. ap (cell a) k.set ∙ k.has_image.there a byte there;
      zeros = λ a low none. ap (cell a) k.set ∙ k.has_image.kept a low none ∙ zero_at k.blank k.all_zero.memory k.all_zero.bytes a;
      inputs = h.inputs;
      outputs = h.outputs;
    }
  where
    zero_at : (core : Core) → length core.cells ≡ 65536 → All (λ byte. byte ≡ 0) core.cells → (a : ℕ) → cell a core ≡ 0
    zero_at core memory bytes a = All-get_or (λ byte. byte ≡ 0) core.cells (a % 65536) 0 (omega arith) bytes

one_input : (one : Setting) → option_to_list (input_of one) ≡ inputs_of (one ∷ [])
one_input (setting.Register r byte) = refl
one_input (setting.Pair p word) = refl
one_input (setting.Flag f on) = refl
one_input (setting.Input byte) = refl
one_input (setting.Cell a byte) = refl

one_more : (image : ImageMap) (s : State) (settings : List Setting) (one : Setting) → IsStart image (options None settings) s
    → IsStart image (options None (settings ++ one ∷ []))
    (record { core = with_setting one s.core; inputs = s.inputs ++ option_to_list (input_of one); outputs = s.outputs })
one_more image s settings one h = record {
  core = record {
    blank = h.core.blank;
    loaded = h.core.loaded;
    all_zero = h.core.all_zero;
    has_image = h.core.has_image;
    set = ap (with_setting one) h.core.set ∙ sym (fold-append (λ core x. with_setting x core) h.core.loaded settings (one ∷ []));
  };
  inputs = ap (λ inputs. inputs ++ option_to_list (input_of one)) h.inputs ∙ ap (λ last. inputs_of settings ++ last) (one_input one)
      ∙ sym (filter_map-append input_of settings (one ∷ []));
  outputs = h.outputs;
}

with_counter : (image : ImageMap) (s : State) (settings : List Setting) (pc : ℕ) → IsStart image (options None settings) s
    → IsStart image (options (Some pc) settings) (record s { core = with_pc pc s.core })
with_counter image s settings pc h = record {
  core = record {
    blank = h.core.blank;
    loaded = h.core.loaded;
    all_zero = h.core.all_zero;
    has_image = h.core.has_image;
    set = ap (with_pc pc) h.core.set;
  };
  inputs = h.inputs;
  outputs = h.outputs;
}

pub starts_with_image : StartsWithImage
starts_with_image = record {
  image = alone;
  some = (
    record { core = blank; inputs = []; outputs = [] },
    record {
      core = record { blank = blank; loaded = blank; all_zero = blank_is; has_image = loads_nothing; set = refl };
      inputs =
          refl;
      outputs = refl;
    },
  );
  setting = one_more;
  counter = with_counter;
}

-- ---- Settings

set_register : (r : Reg) (byte : ℕ) (core : Core) → reg_of r (with_setting (setting.Register r byte) core) ≡ byte
unfolding with_setting with_reg
set_register reg.A byte core = refl
set_register reg.B byte core = refl
set_register reg.C byte core = refl
set_register reg.D byte core = refl
set_register reg.E byte core = refl
set_register reg.H byte core = refl
set_register reg.L byte core = refl

set_pair : (p : Pair) (word : ℕ) (core : Core) → word < 65536 → pair_of p (with_setting (setting.Pair p word) core) ≡ word
unfolding with_setting with_pair with_reg with_sp
set_pair pair.B word core low = omega arith
set_pair pair.D word core low = omega arith
set_pair pair.H word core low = omega arith
set_pair pair.Sp word core low = omega arith

set_cell : (a byte : ℕ) (core : Core) → a < 65536 → length core.cells ≡ 65536 → cell a (with_setting (setting.Cell a byte) core) ≡ byte
unfolding with_setting with_cell
set_cell a byte core low memory = get_or-set_same core.cells (a % 65536) byte 0 (omega arith)

pub sets_its_value : SetsItsValue
unfolding with_setting with_flag
sets_its_value = record {
  register = set_register;
  pair = set_pair;
  sign = λ core. refl;
  zero = λ core. refl;
  half_carry = λ core. refl;
  parity = λ core. refl;
  carry = λ core. refl;
  no_carry = λ core. refl;
  cell = set_cell;
  input = λ byte core. refl;
  inputs = refl;
}

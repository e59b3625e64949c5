-- Bytes one after another from address 0 as an image.
use Rattle.std.proofs.Common.{◌≡◌, ℕ, zero, suc, ◌+◌, ◌*◌, ◌<◌, ◌≤◌, true, false, List, [], ◌∷◌, ◌++◌, length, get_or, take, refl, sym, ap, subst, ◌∙◌, Some, None, arith, rules, length-append, add-zero}
use Rattle.std.specs.Prelude.{flat_map, map, Contains}
use Rattle.std.specs.List.{enumerate_from}
use Rattle.std.specs.Ordering.{nat_cmp, eq_by_cmp}
use Rattle.std.specs.Cmp.{nat_cmp_total}
use Rattle.std.specs.FinMap as maps
use Rattle.std.specs.FinMap.{find}
use Rattle.std.proofs.lemmas.Grind.{flat_map-append}
use Rattle.std.proofs.lemmas.List.{get_or-append-add, get_or_append_left, length-take, take_more}
use Rattle.sp_isa.specs.declared.instr.Instr.{Instr}
use Rattle.sp_first.specs.declared.transfer.Transfer.{Transfer}
use Rattle.sp_first.specs.declared.transfer.Transfer.TheVariants.{Mvi, Mov}
use Rattle.sp_isa.specs.Code.{code}
use Rattle.sp_model.specs.Unit.{Stmt}
use Rattle.sp_first.specs.Program.{instr_of, stmts_from}

tied : (a b : ℕ) → a ≡ b → eq_by_cmp nat_cmp a b ≡ true
tied a b h = search rules

apart : (a b : ℕ) → b < a → eq_by_cmp nat_cmp a b ≡ false
apart a b h = search rules

find-enumerate : (xs : List ℕ) (k j q : ℕ) → q ≡ k + j → j < length xs → find nat_cmp q (enumerate_from k xs) ≡ Some (get_or xs j 0)
find-enumerate [] k j q e h = absurd (omega arith)
find-enumerate (x ∷ xs) k zero q e h = rw (tied q k (omega arith)) refl
find-enumerate (x ∷ xs) k (suc j) q e h = rw (apart q k (omega arith)) (find-enumerate xs (k + 1) j q (omega arith) (omega arith))

-- the byte at an address of bytes from address 0 on
pub byte_at : (xs : List ℕ) (j : ℕ) → j < length xs → maps.get (maps.from_entries {R = nat_cmp} (enumerate_from 0 xs)) j ≡ Some (get_or xs j 0)
byte_at xs j h = maps.get-from_entries nat_cmp_total (enumerate_from 0 xs) j ∙ find-enumerate xs 0 j j (omega arith) h

none_beyond : (xs : List ℕ) (k q : ℕ) → k + length xs ≤ q → find nat_cmp q (enumerate_from k xs) ≡ None
none_beyond [] k q h = refl
none_beyond (x ∷ xs) k q h = rw (apart q k (omega arith)) (none_beyond xs (k + 1) q (omega arith))

enumerate-push : (xs : List ℕ) (k b : ℕ) → enumerate_from k (xs ++ b ∷ []) ≡ enumerate_from k xs ++ (k + length xs, b) ∷ []
enumerate-push [] k b = ap (λ n. (n, b) ∷ []) (sym (add-zero k))
enumerate-push (x ∷ xs) k b =
    let next : (k + 1) + length xs ≡ k + length (x ∷ xs) = omega arith in
    ap (λ es. (k, x) ∷ es) (enumerate-push xs (k + 1) b ∙ ap (λ n. enumerate_from (k + 1) xs ++ (n, b) ∷ []) next)

-- one more byte at the end
pub byte_pushed : (xs : List ℕ) (b n : ℕ) → length xs ≡ n → maps.insert (maps.from_entries {R = nat_cmp} (enumerate_from 0 xs)) n b ≡ maps.from_entries (enumerate_from 0 (xs ++ b ∷ []))
byte_pushed xs b n len =
    sym (ap maps.from_entries (enumerate-push xs 0 b ∙ ap (λ k. enumerate_from 0 xs ++ (k, b) ∷ []) (omega (arith, len)))
    ∙ maps.from_entries_push nat_cmp_total maps.nat_cmp-IsAntisymmetric (enumerate_from 0 xs) n b (none_beyond xs 0 n (omega (arith, len))))

pub next_byte : (xs : List ℕ) (n : ℕ) → n < length xs → maps.insert (maps.from_entries {R = nat_cmp} (enumerate_from 0 (take n xs))) n (get_or xs n 0) ≡ maps.from_entries (enumerate_from 0 (take (n + 1) xs))
next_byte xs n h =
    byte_pushed (take n xs) (get_or xs n 0) n (omega (arith, length-take n xs))
    ∙ ap (λ ys. maps.from_entries (enumerate_from 0 ys)) (sym (take_more xs n 0 h))

-- the codes of instructions up to one, of that one, and of those behind it
pub codes_split : (done : List Instr) (i : Instr) (todo : List Instr) → flat_map code (done ++ i ∷ todo) ≡ flat_map code done ++ (code i ++ flat_map code todo)
codes_split done i todo = flat_map-append code done (i ∷ todo)

pub code_byte : (done : List Instr) (i : Instr) (todo : List Instr) (j : ℕ) → j < length (code i) → get_or (flat_map code (done ++ i ∷ todo)) (length (flat_map code done) + j) 0 ≡ get_or (code i) j 0
code_byte done i todo j h = ap (λ bytes. get_or bytes (length (flat_map code done) + j) 0) (codes_split done i todo)
    ∙ get_or-append-add (flat_map code done) (code i ++ flat_map code todo) j 0
    ∙ get_or_append_left (code i) (flat_map code todo) 0 j h

pub code_within : (done : List Instr) (i : Instr) (todo : List Instr) (j : ℕ) → j < length (code i) → length (flat_map code done) + j < length (flat_map code (done ++ i ∷ todo))
code_within done i todo j h = omega (arith, h, ap length (codes_split done i todo), length-append (flat_map code done) (code i ++ flat_map code todo), length-append (code i) (flat_map code todo))

length-code : (t : Transfer) → length (code (instr_of t)) ≤ 2
length-code (Mov to from) = omega arith
length-code (Mvi to byte) = omega arith

pub codes_short : (ts : List Transfer) → length (flat_map code (map instr_of ts)) ≤ 2 * length ts
codes_short [] = omega arith
codes_short (t ∷ ts) = omega (arith, length-append (code (instr_of t)) (flat_map code (map instr_of ts)), length-code t, codes_short ts)

-- the instruction behind others stands at its address
abbrev at_address : ℕ → Instr → Stmt
at_address a i = record { address = a; instr = i; asserts = [] }

behind : (st first : Stmt) (rest : List Stmt) → Contains rest st → Contains (first ∷ rest) st
behind st first rest h = (suc h.0, omega (arith, h.1), h.2)

pub stmt_at : (a : ℕ) (done : List Instr) (i : Instr) (todo : List Instr) → Contains (stmts_from a (done ++ i ∷ todo)) (at_address (a + length (flat_map code done)) i)
stmt_at a [] i todo = (0, omega arith, ap (λ b. at_address b i) (sym (add-zero a)))
stmt_at a (d ∷ done) i todo =
    let here : (a + length (code d)) + length (flat_map code done) ≡ a + length (code d ++ flat_map code done) = omega (arith, length-append (code d) (flat_map code done)) in
    behind _ _ _ (subst (λ b. Contains (stmts_from (a + length (code d)) (done ++ i ∷ todo)) (at_address b i)) here (stmt_at (a + length (code d)) done i todo))

-- no instruction has assertions
no_asserts_at : (a : ℕ) (is : List Instr) (st : Stmt) (k : ℕ) → k < length (stmts_from a is) → get_or (stmts_from a is) k st ≡ st → st.asserts ≡ []
no_asserts_at a [] st k h e = absurd (omega arith)
no_asserts_at a (i ∷ is) st zero h e = ap (λ (s : Stmt). s.asserts) (sym e)
no_asserts_at a (i ∷ is) st (suc k) h e = no_asserts_at (a + length (code i)) is st k (omega arith) e

pub no_asserts : (a : ℕ) (is : List Instr) (st : Stmt) → Contains (stmts_from a is) st → st.asserts ≡ []
no_asserts a is st h = no_asserts_at a is st h.0 h.1 h.2

-- The cells of an image by rising address, and the records that they are written in.
use Rattle.std.proofs.Common.{◌≡◌, ◌⊎◌, ℕ, suc, ◌+◌, ◌<◌, ◌≤◌, Bool, true, false, ◌&&◌, eqb, ltb, List, [], ◌∷◌, ◌++◌, length, refl, sym, ap, subst, ◌∙◌, inl, inr, Some, arith, append_assoc}
use Rattle.std.specs.Prelude.{Vec, vec_len}
use Rattle.std.specs.declared.alloc.Global.{Global}
use Rattle.std.proofs.lemmas.Bool.{cases_eq, le-ltb, lt-ltb, eq-eqb, ne_eqb, and_left, and_right, and_from, cond-true, cond-false, cases_Bool, eqb-true, eqb-false, ltb-true, ltb-false, false≢true}
use Rattle.std.proofs.lemmas.List.{append-nil, length_push}
use Rattle.std.specs.List.{AllByRecursion}
use Rattle.std.specs.FinMap as maps
use Rattle.sp_base.specs.Image.{ImageMap}
use Rattle.sp_hex.specs.Hex.{AreFull, AreWritten, records_from, records_of, written_record, data_type, end_type, text}
use Rattle.sp_hex.specs.code.Rows.{data_text, records_with}
use Rattle.sp_base.proofs.FindLaws.{Cells}
use Rattle.sp_base.specs.Cells.{Data, cells_at, cells_of}

-- ---- Small things

pub some_is : {x y : ℕ} → Some x ≡ Some y → x ≡ y
some_is e = cc

add_nothing : (a : ℕ) → a ≡ a + 0
add_nothing a = omega arith

one_more : (a n : ℕ) → a + 1 + n ≡ a + suc n
one_more a n = omega arith

shift : (a n m : ℕ) → m ≡ n + 1 → a + n + 1 ≡ a + m
shift a n m e = omega arith

-- ---- Cells of records

cells_push : (a : ℕ) (bytes : List ℕ) (byte : ℕ) (rest : Cells) → cells_at a (bytes ++ byte ∷ []) ++ rest ≡ cells_at a bytes ++ (a + length bytes, byte) ∷ rest
cells_push a [] byte rest = λ i. (add_nothing a i, byte) ∷ rest
cells_push a (b ∷ bytes) byte rest = λ i. (a, b) ∷ (cells_push (a + 1) bytes byte rest ∙ ap (λ k. cells_at (a + 1) bytes ++ (k, byte) ∷ rest) (one_more a (length bytes))) i

-- ---- Records

-- the cells begin with one at this address
abbrev pub BeginsAt : Cells → ℕ → Type 0
BeginsAt [] a = ⊥
BeginsAt (c ∷ cells) a = c.0 ≡ a

fill : (a : ℕ) (bytes more : List ℕ) (rest : Cells) → length bytes + length more ≤ 16
    → records_from (record { address = a; bytes = bytes }) (cells_at (a + length bytes) more ++ rest) ≡ records_from (record { address = a; bytes = bytes ++ more }) rest
unfolding records_from
fill a bytes [] rest few = ap (λ (b : List ℕ). records_from (record { address = a; bytes = b }) rest) (sym (append-nil bytes))
fill a bytes (b ∷ more) rest few =
    let len : length (bytes ++ b ∷ []) ≡ length bytes + 1 = length_push bytes b in
    let joins : (eqb (a + length bytes) (a + length bytes) && ltb (length bytes) 16) ≡ true = and_from _ _ (eq-eqb _ _ refl) (lt-ltb (length bytes) 16 (omega arith)) in
    cond-true _ _ _ joins
    ∙ ap (λ k. records_from (record { address = a; bytes = bytes ++ b ∷ [] }) (cells_at k more ++ rest)) (shift a (length bytes) _ len)
    ∙ fill a (bytes ++ b ∷ []) more rest (omega (arith, len))
    ∙ ap (λ (x : List ℕ). records_from (record { address = a; bytes = x }) rest) (append_assoc bytes (b ∷ []) more)

stop : (d : Data) (rest : Cells) → (length d.bytes ≡ 16) ⊎ ¬ (BeginsAt rest (d.address + length d.bytes)) → records_from d rest ≡ d ∷ records_of rest
unfolding records_from
stop d [] h = refl
stop d (c ∷ rest) h =
    let joins : Bool = eqb c.0 (d.address + length d.bytes) && ltb (length d.bytes) 16 in
    let off : joins ≡ false = elim h [
      | inl full ↦ and_right (eqb c.0 (d.address + length d.bytes)) (ltb (length d.bytes) 16) (le-ltb (length d.bytes) 16 (omega arith))
      | inr apart ↦ and_left (eqb c.0 (d.address + length d.bytes)) (ltb (length d.bytes) 16) (ne_eqb c.0 (d.address + length d.bytes) apart)
    ] in
    cond-false joins (records_from (record { address = d.address; bytes = d.bytes ++ c.1 ∷ [] }) rest) (d ∷ records_of (c ∷ rest)) off

-- a row is a record, and what is behind it begins another
pub records-row : (a : ℕ) (bytes : List ℕ) (rest : Cells) → 0 < length bytes → length bytes ≤ 16 → (length bytes ≡ 16) ⊎ ¬ (BeginsAt rest (a + length bytes))
    → records_of (cells_at a bytes ++ rest) ≡ record { address = a; bytes = bytes } ∷ records_of rest
records-row a [] rest some few ends = absurd (omega arith)
records-row a (b ∷ bytes) rest some few ends =
    fill a (b ∷ []) bytes rest (omega arith) ∙ stop (record { address = a; bytes = b ∷ bytes }) rest ends

-- ---- Writing

pub filled : (v : Vec ℕ Global) → eqb (vec_len v) 0 ≡ false → ¬ (length v.items ≡ 0)
filled v some e = eqb-false (vec_len v) 0 some (v.ok.0 ∙ e)

pub not_filled : (v : Vec ℕ Global) → eqb (vec_len v) 0 ≡ true → length v.items ≡ 0
not_filled v none = sym v.ok.0 ∙ eqb-true (vec_len v) 0 none

-- the first byte begins a record
pub first_taken : (a address byte : ℕ) (row new out : List ℕ) (cells : Cells) → length row ≡ 0 → new ≡ row ++ byte ∷ []
    → out ++ data_text (records_with a new cells) ≡ out ++ data_text (records_with address row ((a, byte) ∷ cells))
first_taken a address byte [] new out cells none is = ap (λ (r : List ℕ). out ++ data_text (records_with a r cells)) is
first_taken a address byte (b ∷ row) new out cells none is = absurd (omega arith)

-- a byte joins the record
pub one_joined : (a address byte : ℕ) (row new out : List ℕ) (cells : Cells) → ¬ (length row ≡ 0) → (eqb a (address + length row) && ltb (length row) 16) ≡ true → new ≡ row ++ byte ∷ []
    → out ++ data_text (records_with address new cells) ≡ out ++ data_text (records_with address row ((a, byte) ∷ cells))
unfolding records_from
one_joined a address byte [] new out cells some joined is = absurd (some refl)
one_joined a address byte (b ∷ row) new out cells some joined is =
    ap (λ (r : List ℕ). out ++ data_text (records_with address r cells)) is
    ∙ ap (λ (x : List Data). out ++ data_text x) (sym (cond-true _ (records_from (record { address = address; bytes = b ∷ (row ++ byte ∷ []) }) cells) _ joined))

-- a record is written, and another begun
pub one_written : (a address byte : ℕ) (row new old out : List ℕ) (cells : Cells) → ¬ (length row ≡ 0) → (eqb a (address + length row) && ltb (length row) 16) ≡ false
    → new ≡ byte ∷ [] → out ≡ old ++ written_record data_type address row
    → out ++ data_text (records_with a new cells) ≡ old ++ data_text (records_with address row ((a, byte) ∷ cells))
unfolding records_from
one_written a address byte [] new old out cells some apart is put = absurd (some refl)
one_written a address byte (b ∷ row) new old out cells some apart is put =
    let rest = data_text (records_of ((a, byte) ∷ cells)) in
    ap (λ (r : List ℕ). out ++ data_text (records_with a r cells)) is ∙ ap (λ (o : List ℕ). o ++ rest) put
    ∙ append_assoc old (written_record data_type address (b ∷ row)) rest
    ∙ ap (λ (x : List Data). old ++ data_text x) (sym (cond-false _ _ (record { address = address; bytes = b ∷ row } ∷ records_of ((a, byte) ∷ cells)) apart))

-- the last record, if one is begun
pub last_written : (image : ImageMap) (address : ℕ) (row old out : List ℕ) → ¬ (length row ≡ 0) → out ≡ old ++ written_record data_type address row
    → old ++ data_text (records_with address row []) ≡ data_text (records_of (maps.entries image)) → out ≡ data_text (records_of (maps.entries image))
unfolding records_from
last_written image address [] old out some put so_far = absurd (some refl)
last_written image address (b ∷ row) old out some put so_far =
    put ∙ ap (λ (x : List ℕ). old ++ x) (sym (append-nil (written_record data_type address (b ∷ row)))) ∙ so_far

pub none_written : (image : ImageMap) (address : ℕ) (row old : List ℕ) → length row ≡ 0
    → old ++ data_text (records_with address row []) ≡ data_text (records_of (maps.entries image)) → old ≡ data_text (records_of (maps.entries image))
none_written image address [] old none so_far = sym (append-nil old) ∙ so_far
none_written image address (b ∷ row) old none so_far = absurd (omega arith)

-- all records are written
pub write_end : (image : ImageMap) (old new : List ℕ) → new ≡ old ++ written_record end_type 0 [] → old ≡ data_text (records_of (maps.entries image)) → new ≡ text image
unfolding text
write_end image old new put all = put ∙ ap (λ (x : List ℕ). x ++ written_record end_type 0 []) all

-- ---- The written form

abbrev Short : Data → Type 0
Short d = (0 < length d.bytes) × (length d.bytes ≤ 16)

-- the first record is at this address
abbrev FirstAt : List Data → ℕ → Type 0
FirstAt [] a = ⊥
FirstAt (d ∷ records) a = d.address ≡ a

full_cons : (d : Data) (records : List Data) (a : ℕ) → FirstAt records a → (a ≡ d.address + length d.bytes → length d.bytes ≡ 16) → AreFull records → AreFull (d ∷ records)
full_cons d [] a first full rest = tt
full_cons d (e ∷ records) a first full rest = (λ at. full (sym first ∙ at), rest)

and_both : (x y : Bool) → (x && y) ≡ true → (x ≡ true) × (y ≡ true)
and_both true y h = (refl, h)
and_both false y h = absurd (false≢true h)

off : (x y : Bool) → x ≡ true → (x && y) ≡ false → y ≡ false
off true y is h = h
off false y is h = absurd (false≢true is)

at_most : (n : ℕ) → n ≤ 16 → 16 ≤ n → n ≡ 16
at_most n le ge = omega arith

begins_first : (a : ℕ) (bytes : List ℕ) (rest : Cells) (at : ℕ) → 0 < length bytes → BeginsAt (cells_at a bytes ++ rest) at → a ≡ at
begins_first a [] rest at some begins = absurd (omega arith)
begins_first a (b ∷ bytes) rest at some begins = begins

record Made (d : Data) (cells : Cells) (records : List Data) : Type 0 where
  whole : cells_of records ≡ cells_at d.address d.bytes ++ cells
  short : AllByRecursion Short records
  full : AreFull records
  first : FirstAt records d.address

made : (d : Data) (cells : Cells) → Short d → Made d cells (records_from d cells)
unfolding records_from
made d [] short = record { whole = refl; short = (short, tt); full = tt; first = refl }
made d (c ∷ cells) short =
    let joins : Bool = eqb c.0 (d.address + length d.bytes) && ltb (length d.bytes) 16 in
    let longer : Data = record { address = d.address; bytes = d.bytes ++ c.1 ∷ [] } in
    let next : Data = record { address = c.0; bytes = c.1 ∷ [] } in
    elim (cases_Bool joins) [
      | inl joined ↦
          let tests = and_both (eqb c.0 (d.address + length d.bytes)) (ltb (length d.bytes) 16) joined in
          let len : length (d.bytes ++ c.1 ∷ []) ≡ length d.bytes + 1 = length_push d.bytes c.1 in
          let more = made longer cells (omega (arith, len), omega (arith, len, ltb-true (length d.bytes) 16 tests.1)) in
          let at : c.0 ≡ d.address + length d.bytes = eqb-true _ _ tests.0 in
          subst (Made d (c ∷ cells)) (sym (cond-true joins (records_from longer cells) (d ∷ records_from next cells) joined)) (record {
            whole = more.whole ∙ cells_push d.address d.bytes c.1 cells ∙ ap (λ (k : ℕ). cells_at d.address d.bytes ++ (k, c.1) ∷ cells) (sym at);
            short = more.short;
            full = more.full;
            first = more.first;
          })
      | inr not_joined ↦
          let more = made next cells (omega arith, omega arith) in
          subst (Made d (c ∷ cells)) (sym (cond-false joins (records_from longer cells) (d ∷ records_from next cells) not_joined)) (record {
            whole = ap (λ (x : Cells). cells_at d.address d.bytes ++ x) more.whole;
            short = (short, more.short);
            full = full_cons d (records_from next cells) c.0 more.first (λ at. at_most (length d.bytes) short.1
                (ltb-false _ _ (off (eqb c.0 (d.address + length d.bytes)) (ltb (length d.bytes) 16) (eq-eqb _ _ at) not_joined))) more.full;
            first = refl;
          })
    ]

pub written_made : (cells : Cells) → AreWritten cells (records_of cells)
written_made [] = record { whole = refl; short = tt; full = tt }
written_made (c ∷ cells) =
    let h = made (record { address = c.0; bytes = c.1 ∷ [] }) cells (omega arith, omega arith) in
    record { whole = h.whole; short = h.short; full = h.full }

begins_full : (d : Data) (records : List Data) → AllByRecursion Short records → AreFull (d ∷ records) → BeginsAt (cells_of records) (d.address + length d.bytes) → length d.bytes ≡ 16
begins_full d [] short full begins = absurd begins
begins_full d (e ∷ records) short full begins = full.0 (begins_first e.address e.bytes (cells_of records) _ short.0.0 begins)

full_tail : (d : Data) (records : List Data) → AreFull (d ∷ records) → AreFull records
full_tail d [] full = tt
full_tail d (e ∷ records) full = full.1

records_only : (records : List Data) → AllByRecursion Short records → AreFull records → records ≡ records_of (cells_of records)
records_only [] short full = refl
records_only (d ∷ records) short full =
    let ends : (length d.bytes ≡ 16) ⊎ ¬ (BeginsAt (cells_of records) (d.address + length d.bytes)) = elim (cases_eq (length d.bytes) 16) [
      | inl whole ↦ inl whole
      | inr part ↦ inr (λ begins. part (begins_full d records short.1 full begins))
    ] in
    ap (λ (x : List Data). d ∷ x) (records_only records short.1 (full_tail d records full))
    ∙ sym (records-row d.address d.bytes (cells_of records) short.0.0 short.0.1 ends)

pub written_only : (cells : Cells) (records : List Data) → AreWritten cells records → records ≡ records_of cells
written_only cells records h = records_only records h.short h.full ∙ ap records_of h.whole

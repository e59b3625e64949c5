-- Records of an image as the writer begins and ends them. No public contract cites this.
use Rattle.std.specs.Prelude.{ℕ, List, [], ◌∷◌}
use Rattle.std.specs.List.{flat_map}
use Rattle.sp_base.specs.Cells.{Data}
use Rattle.sp_hex.specs.Hex.{data_type, records_from, records_of, written_record}

-- the text of data records
abbrev pub data_text : List Data → List ℕ
data_text = flat_map (λ d. written_record data_type d.address d.bytes)

-- the records of cells, after a record that is begun at an address with these bytes; no bytes begin none
abbrev pub records_with : ℕ → List ℕ → List (ℕ × ℕ) → List Data
records_with address [] cells = records_of cells
records_with address (byte ∷ bytes) cells = records_from (record { address = address; bytes = byte ∷ bytes }) cells

-- Believed: What a lookup gives: a part of the caller's own slice.
use Rattle.std.specs.Prelude.{ℕ, ◌+◌, ◌≡◌, List}
use Rattle.std.specs.Borrow.{Bor}
use Rattle.format.specs.Calls.{first_byte, place_of, lookup_of}

-- It has the bytes of the name's words, and lies as many bytes after the slice's beginning as the place says.
abbrev pub LookedUp : Bor (List ℕ) → List ℕ → Bor (List ℕ) → Type 0
LookedUp sheet name part =
    (part.now ≡ lookup_of sheet.now name) × (part.ref_ptr ≡ (sheet.ref_ptr.0, first_byte (place_of sheet.now name) + sheet.ref_ptr.1))

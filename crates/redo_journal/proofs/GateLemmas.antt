-- The byte of the gate after it was written.
use Rattle.std.proofs.Common.{◌≡◌, ◌≤◌, ◌+◌, ℕ, List, [], ◌∷◌, ◌++◌, length, take, drop, get_or, Option, Some, None, Result, Ok, Err, OnOk, IsTrue, IsFalse, arith, ap, ◌∙◌, refl}
use Rattle.std.specs.Option.{option_map, ForSome}
use Rattle.std.proofs.lemmas.Grind.{common_steps}
use Rattle.mdc_outside.specs.Disk.{File, written, settled}
use Rattle.page_file.specs.Layout.{IsReady}
use Rattle.redo_journal.specs.Layout.{is_open}
use Rattle.page_file.specs.declared.layout.TheConstants.{GATE}

-- a byte that was written stands in its place
pub overwritten_byte : (at x : ℕ) (bytes : List ℕ) → at ≤ length bytes → get_or (take at bytes ++ (x ∷ []) ++ drop (at + 1) bytes) at 0 ≡ x
overwritten_byte at x bytes le = grind (arith, common_steps)

-- after a write of the gate, its byte is what was written
pub gate_byte : (old new : Option File) (x : ℕ) → ForSome old IsReady → new ≡ option_map (λ file. settled (written GATE (x ∷ []) file)) old → ForSome new (λ file. get_or file.bytes 512 0 ≡ x)
gate_byte None new x ready is file told = cc
gate_byte (Some old) new x ready is file told =
    let same : file ≡ settled (written GATE (x ∷ []) old) = cc in
    let long : 512 ≤ length old.bytes = omega (arith, (ready old refl).long) in
    ap (λ f. get_or f.bytes 512 0) same ∙ overwritten_byte 512 x old.bytes long

-- after a call that wrote the open gate, it is open
pub is_opened : {T E : Type 0} (result : Result T E) (old new : Option File) → ForSome old IsReady
    → OnOk result (new ≡ option_map (λ file. settled (written GATE (79 ∷ []) file)) old) → OnOk result (ForSome new (λ file. IsTrue (is_open file.bytes)))
is_opened (Ok done) old new ready is = λ file told. let byte = gate_byte old new 79 ready is file told in rw byte
is_opened (Err e) old new ready is = is

-- after a call that wrote the closed gate, it isn't open
pub is_closed : {T E : Type 0} (result : Result T E) (old new : Option File) → ForSome old IsReady
    → OnOk result (new ≡ option_map (λ file. settled (written GATE (0 ∷ []) file)) old) → OnOk result (ForSome new (λ file. IsFalse (is_open file.bytes)))
is_closed (Ok done) old new ready is = λ file told. let byte = gate_byte old new 0 ready is file told in rw byte
is_closed (Err e) old new ready is = is

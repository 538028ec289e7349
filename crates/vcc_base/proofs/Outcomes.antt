-- What holds whatever a call answered.
use Rattle.std.proofs.Common.{Result, Ok, Err, OnOk, OnErr, IfOk}

-- what holds anyway holds on success
pub on_ok : {T E : Type 0} (r : Result T E) (P : Type 0) → P → OnOk r P
on_ok (Ok x) P p = p
on_ok (Err e) P p = tt

-- what holds of each value holds of the one of a success
pub if_ok : {T E : Type 0} (r : Result T E) (P : T → Type 0) → ((x : T) → P x) → IfOk r P
if_ok (Ok x) P each = each x
if_ok (Err e) P each = tt

-- what holds anyway holds on an error
pub on_err : {T E : Type 0} (r : Result T E) (P : Type 0) → P → OnErr r P
on_err (Ok x) P p = tt
on_err (Err e) P p = p

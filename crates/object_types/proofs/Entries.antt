-- The conjuncts of a claim before and after a change at a place.
use Rattle.std.proofs.Common.{◌≡◌, ℕ, Bool, true, false, List, sym}
use Rattle.std.specs.List.{insert, remove}
use Rattle.object_types.specs.declared.shapes.Entry.{Entry}
use Rattle.object_types.specs.Shapes.{same_entry, entry_lt, set_entry}
use Rattle.object_types.specs.Places.{is_ordered, IsAt, GoesAt}
use Rattle.object_types.proofs.Orders.{entry_order}
use Rattle.object_types.proofs.Placed.{placed_at, inserted_at, remove_at, absent_out, ordered_placed, ordered_filter}

pub entry_stays : (r : Entry) (s : List Entry) (i : ℕ) (holds : Bool) → IsAt (λ y. y) entry_lt same_entry r s i → holds ≡ true → s ≡ set_entry r holds s
entry_stays r s i holds a h = rw h (sym (placed_at entry_lt same_entry entry_order r s i a))

pub entry_leaves : (r : Entry) (s : List Entry) (i : ℕ) (holds : Bool) → is_ordered entry_lt s ≡ true → IsAt (λ y. y) entry_lt same_entry r s i → holds ≡ false → remove s i ≡ set_entry r holds s
entry_leaves r s i holds o a h = rw h (remove_at (λ y. y) entry_lt same_entry entry_order r s i o a)

pub entry_stays_out : (r : Entry) (s : List Entry) (i : ℕ) (holds : Bool) → is_ordered entry_lt s ≡ true → GoesAt (λ y. y) entry_lt same_entry r s i → holds ≡ false → s ≡ set_entry r holds s
entry_stays_out r s i holds o a h = rw h (sym (absent_out (λ y. y) entry_lt same_entry entry_order r s i o a))

pub entry_enters : (r : Entry) (s : List Entry) (i : ℕ) (holds : Bool) → GoesAt (λ y. y) entry_lt same_entry r s i → holds ≡ true → insert s i r ≡ set_entry r holds s
entry_enters r s i holds a h = rw h (inserted_at entry_lt same_entry entry_order r s i a)

pub set_entry_ordered : (r : Entry) (s : List Entry) (holds : Bool) → is_ordered entry_lt s ≡ true → is_ordered entry_lt (set_entry r holds s) ≡ true
set_entry_ordered r s true o = ordered_placed entry_lt same_entry entry_order r s o
set_entry_ordered r s false o = ordered_filter (λ y. y) entry_lt same_entry entry_order _ s o

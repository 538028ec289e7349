use Rattle.condition_code.proofs.Walks.{gives, run_then}
use Rattle.condition_stores.proofs.Places.{in_local}
use Rattle.condition_stores.proofs.place.left_side.Goals as goal

pub returns-in-Local : goal.returns-in-Local
returns-in-Local c = λ b s hb hs. rw c.in-Local.is (gives (λ n f h. h) in_local)

pub returns-in_ok-place-in-FieldOf : goal.returns-in_ok-place-in-FieldOf
returns-in_ok-place-in-FieldOf c = λ b s hb hs.
    let x = c.in_ok-v-in-FieldOf.ensures b s hb hs in
    rw c.in-FieldOf.is (run_then x (c.in_ok-place-in-FieldOf.ensures _ x.gives))

-- Code whose next item stands last, as method has it.
use Rattle.std.proofs.Common.{◌≡◌, List, [], ◌∷◌, ◌++◌, map, reverse, ap, sym, ◌∙◌, append_assoc}
use Rattle.std.proofs.lemmas.List.{reverse-append, map-append}
use Rattle.method.specs.Machine as m
use Rattle.machine_turns.specs.declared.activation.Remaining.{Remaining}
use Rattle.machine_turns.specs.Frames.{left_of, ahead}

pub ahead_more : (rs : List Remaining) (r : Remaining) → ahead (rs ++ r ∷ []) ≡ left_of r ∷ ahead rs
ahead_more rs r = ap reverse (map-append left_of rs (r ∷ [])) ∙ reverse-append (map left_of rs) (left_of r ∷ [])

pub ahead_both : (rs ss : List Remaining) → ahead (rs ++ ss) ≡ ahead ss ++ ahead rs
ahead_both rs ss = ap reverse (map-append left_of rs ss) ∙ reverse-append (map left_of rs) (map left_of ss)

-- an item that is put onto no code
pub only_item : (rs ss : List Remaining) (r : Remaining) → rs ≡ [] → ss ≡ rs ++ r ∷ [] → ahead ss ≡ left_of r ∷ []
only_item rs ss r none is = ap ahead (is ∙ ap (λ z. z ++ r ∷ []) none)

-- a body that is put onto an item
pub body_on_item : (mid new : List Remaining) (body : List m.Remaining) (r : m.Remaining) (code : List m.Remaining) → ahead new ≡ body ++ ahead mid → ahead mid ≡ r ∷ [] → body ++ r ∷ code ≡ ahead new ++ code
body_on_item mid new body r code is one = sym (append_assoc body (r ∷ []) code) ∙ ap (λ z. z ++ code) (sym (is ∙ ap (λ z. body ++ z) one))

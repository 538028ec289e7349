-- Who may store what, from the tests in the code's order.
use Rattle.std.proofs.Common.{◌≡◌, Bool, true, false, not, ◌&&◌, ◌||◌, refl, sym, ap, ◌∙◌}
use Rattle.object_types.specs.declared.references.Ref.{Ref}
use Rattle.object_types.specs.References.{same_ref}
use Rattle.object_types.specs.Heap.{Heap}
use Rattle.method.specs.Expressions.{Spot, is_listed, may_write}
use Rattle.method.specs.Actions.{may_count}

or_true : (b : Bool) → b || true ≡ true
or_true true = refl
or_true false = refl

or_false : (b : Bool) → b || false ≡ b
or_false true = refl
or_false false = refl

pub either_first : (a b r : Bool) → r ≡ a → r ≡ true → r ≡ a || b
either_first a b r is e = e ∙ ap (λ c. c || b) (sym e ∙ is)

pub either_second : (a b r s : Bool) → r ≡ a → r ≡ false → s ≡ b → s ≡ a || b
either_second a b r s is e same = rw (← is, e) same

module _ (at_ : Spot) (h : Heap) (o owner : Ref) (l : Bool) (whose : owner ≡ (h.get o).owner) (listed : l ≡ is_listed at_ owner) where
  in_block : is_listed at_ (h.get o).owner ≡ l
  in_block = ap (is_listed at_) (sym whose) ∙ sym listed

  pub counts_listed : l ≡ true → true ≡ may_count at_ h o
  counts_listed e = sym (ap (λ b. (same_ref (h.get o).owner at_.context.me && may_write at_ o) || b) (in_block ∙ e) ∙ or_true (same_ref (h.get o).owner at_.context.me && may_write at_ o))

  module _ (s : Bool) (same : s ≡ same_ref owner at_.context.me) (unlisted : l ≡ false) where
    alone : may_count at_ h o ≡ (s && may_write at_ o)
    alone = ap (λ b. (same_ref (h.get o).owner at_.context.me && may_write at_ o) || b) (in_block ∙ unlisted) ∙ or_false (same_ref (h.get o).owner at_.context.me && may_write at_ o)
        ∙ ap (λ b. b && may_write at_ o) (ap (λ r. same_ref r at_.context.me) (sym whose) ∙ sym same)

    pub counts_not : s ≡ false → false ≡ may_count at_ h o
    counts_not e = sym (alone ∙ ap (λ b. b && may_write at_ o) e)

    pub counts_own : (w : Bool) → s ≡ true → w ≡ may_write at_ o → w ≡ may_count at_ h o
    counts_own w e is = is ∙ sym (alone ∙ ap (λ b. b && may_write at_ o) e)

-- mutable; listed, volatile, and not approved or counted
module _ (m l v a k : Bool) where
  pub stores_own : m ≡ true → true ≡ m || (l && (v && (not a || k)))
  stores_own e = rw e refl

  pub stores_unlisted : m ≡ false → l ≡ false → false ≡ m || (l && (v && (not a || k)))
  stores_unlisted e f = rw (e, f) refl

  pub stores_fixed : m ≡ false → l ≡ true → v ≡ false → false ≡ m || (l && (v && (not a || k)))
  stores_fixed e f g = rw (e, f, g) refl

  pub stores_free : m ≡ false → l ≡ true → v ≡ true → a ≡ false → true ≡ m || (l && (v && (not a || k)))
  stores_free e f g h = rw (e, f, g, h) refl

  pub stores_counted : m ≡ false → l ≡ true → v ≡ true → a ≡ true → k ≡ m || (l && (v && (not a || k)))
  stores_counted e f g h = rw (e, f, g, h) refl

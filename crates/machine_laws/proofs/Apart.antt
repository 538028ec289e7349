-- What a step leaves alone: all that other threads own, and what the function that takes it may not write.
use Rattle.std.proofs.Common.{◌≡◌, Bool, true, false, ◌⊎◌, ⊎_elim, refl, sym, ap, ◌∙◌}
use Rattle.object_types.specs.declared.references.Ref.{Ref}
use Rattle.method.specs.declared.program.Program.{Program}
use Rattle.object_types.specs.References.{is_thread}
use Rattle.object_types.specs.Heap.{Record, is_closed, is_open, writable}
use Rattle.method.specs.WellFormed.{KeepsApproved}
use Rattle.method.specs.Expressions.{Context}
use Rattle.machine_laws.proofs.Typed.{not_both}
use Rattle.machine_laws.proofs.Heaps.{open_not_closed}

-- another thread's, or not the function's to write
abbrev pub Spares : Context → Ref → Ref → Type 0
Spares x w o = (w ≡ x.me → ⊥) ⊎ (writable x.me x.entry x.writes o ≡ false)

-- what w owns stays as it is if open; it stays closed, its, with its count and its approved fields, if closed
pub record IsSpared (p : Program) (w : Ref) (r s : Record) : Type 0 where
  pub open_same : is_open r.mode ≡ true → s ≡ r
  pub closed_same : is_closed r.mode ≡ true → (is_closed s.mode ≡ true) × (s.owner ≡ w) × (s.count ≡ r.count) × KeepsApproved p r s

-- the same of each thread; and but for new ones none that another thread doesn't own becomes its
pub record Apart (p : Program) (x : Context) (new : Ref → Bool) (o : Ref) (r s : Record) : Type 0 where
  pub spared : (w : Ref) → is_thread w ≡ true → Spares x w o → r.owner ≡ w → IsSpared p w r s
  pub foreign : (w : Ref) → is_thread w ≡ true → (w ≡ x.me → ⊥) → new w ≡ false → (r.owner ≡ w → ⊥) → s.owner ≡ w → ⊥

pub apart_same : (p : Program) (x : Context) (new : Ref → Bool) (o : Ref) (r : Record) → Apart p x new o r r
apart_same p x new o r = record {
  spared = λ w t s e. record { open_same = λ m. refl; closed_same = λ m. (m, e, refl, record { fields = λ f a. refl }) };
  foreign = λ w t n k f e. f e;
}

pub apart_trans : (p : Program) (x : Context) (new : Ref → Bool) (o : Ref) (r s t : Record) → Apart p x new o r s → Apart p x new o s t → Apart p x new o r t
apart_trans p x new o r s t a b = record {
  spared = λ w th sp e. record {
    open_same = λ m.
        let same : s ≡ r = (a.spared w th sp e).open_same m in
        (b.spared w th sp (ap (λ (k : Record). k.owner) same ∙ e)).open_same (ap (λ (k : Record). is_open k.mode) same ∙ m) ∙ same;
    closed_same = λ m.
        let y = (a.spared w th sp e).closed_same m in
        let z = (b.spared w th sp y.1).closed_same y.0 in
        (z.0, z.1, z.2 ∙ y.2, record { fields = λ f g. z.3.fields f g ∙ y.3.fields f g });
  };
  foreign = λ w th n k f. b.foreign w th n k (a.foreign w th n k f);
}

module _ (p : Program) (x : Context) (new : Ref → Bool) (o : Ref) (r s : Record) where
  abbrev pub NoneGets : Type 0
  NoneGets = (w : Ref) → is_thread w ≡ true → (w ≡ x.me → ⊥) → new w ≡ false → s.owner ≡ w → ⊥

  -- of the thread's own, which it may write
  pub apart_mine : r.owner ≡ x.me → writable x.me x.entry x.writes o ≡ true → NoneGets → Apart p x new o r s
  apart_mine e wr n = record {
    spared = λ w th sp f. absurd (⊎_elim (λ a. a (sym f ∙ e)) (λ a. not_both (writable x.me x.entry x.writes o) wr a) sp);
    foreign = λ w th ne k f. n w th ne k;
  }

  -- of what no thread owns
  pub apart_none : is_thread r.owner ≡ false → NoneGets → Apart p x new o r s
  apart_none e n = record {
    spared = λ w th sp f. absurd (not_both (is_thread r.owner) (ap is_thread f ∙ th) e);
    foreign = λ w th ne k f. n w th ne k;
  }

  -- of what is closed and stays its owner's
  pub apart_still :
      s.owner ≡ r.owner → is_closed r.mode ≡ true → is_closed s.mode ≡ true →
      ((w : Ref) → is_thread w ≡ true → Spares x w o → r.owner ≡ w → (s.count ≡ r.count) × KeepsApproved p r s) → Apart p x new o r s
  apart_still e c d same = record {
    spared = λ w th sp f. let y = same w th sp f in record { open_same = λ m. absurd (not_both (is_closed r.mode) c (open_not_closed r.mode m)); closed_same = λ m. (d, e ∙ f, y.0, y.1) };
    foreign = λ w th ne k f g. f (sym e ∙ g);
  }

-- with more new threads less is said
pub apart_more : (p : Program) (x : Context) (new more : Ref → Bool) (o : Ref) (r s : Record) → ((w : Ref) → more w ≡ false → new w ≡ false) → Apart p x new o r s → Apart p x more o r s
apart_more p x new more o r s m a = record { spared = a.spared; foreign = λ w th n k. a.foreign w th n (m w k) }

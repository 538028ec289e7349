-- Nodes with their index, behind what changes them.
use Rattle.std.proofs.Common.{◌≡◌, ℕ, ◌+◌, ◌-◌, ◌<◌, ◌≤◌, List, [], ◌∷◌, ◌++◌, length, take, All, Contains, ap, sym, ◌∙◌, subst, arith}
use Rattle.std.proofs.lemmas.List.{length-append, length-take-le}
use Rattle.terms.specs.declared.term.Term.{Term}
use Rattle.term_pool.specs.Region.{Region}
use Rattle.term_graph.specs.Graph.{HeldNodes, IsGraph}
use Rattle.term_graph.specs.Index.{IsIndex, IsIndexed}
use Rattle.term_graph.proofs.Graphs.{graph_pushed, graph_taken}
use Rattle.term_graph.proofs.Chains.{index_pushed, index_taken}

-- the index of a pool with a node more
pub pushed : (pool new : Region Term) (t : Term) (id : ℕ) (newest older : List ℕ) → IsIndexed pool newest older → new.items ≡ pool.items ++ t ∷ [] → id ≡ length pool.items → IsIndex new.items id newest older
pushed pool new t id newest older x e p =
    subst (λ n. IsIndex new.items n newest older) (sym p) (subst (λ (ts : List Term). IsIndex ts (length pool.items) newest older) (sym e) (index_pushed pool.items t newest older x.index))

-- a node placed behind the others
pub placed : (held reserved : HeldNodes) (pool new : Region Term) (t : Term) (id : ℕ) (newest older heads links : List ℕ) → record { terms = pool.items; spare = length older - length pool.items } ≡ reserved → reserved.terms ≡ held.terms → IsIndexed pool newest older → new.items ≡ pool.items ++ t ∷ [] → new.spare + 1 ≡ pool.spare → id ≡ length pool.items → All (λ a. a < length held.terms) t.args → (Contains held.terms t → ⊥) → length held.terms < 4_294_967_295 → IsIndex new.items (id + 1) heads links → length links ≡ length older → IsIndexed new heads links
placed held reserved pool new t id newest older heads links v r x e s p below absent room i l =
    let same : held.terms ≡ pool.items = sym r ∙ sym (ap (λ (h : HeldNodes). h.terms) v) in
    let count : length new.items ≡ length pool.items + 1 = ap length e ∙ length-append pool.items (t ∷ []) in
    let size : id + 1 ≡ length new.items = omega (arith, p, count) in
    record {
      graph = subst (λ (ts : List Term). IsGraph ts) (sym e) (graph_pushed pool.items t x.graph
          (subst (λ (ts : List Term). All (λ a. a < length ts) t.args) same below)
          (subst (λ (ts : List Term). Contains ts t → ⊥) same absent));
      few = omega (arith, ap length same, count, room);
      index = subst (λ n. IsIndex new.items n heads links) size i;
      spare = omega (arith, l, count, s, x.spare);
    }

-- nodes cut at a mark
pub released : (pool new : Region Term) (mark : ℕ) (newest older heads links : List ℕ) → IsIndexed pool newest older → mark ≤ length pool.items → new.items ≡ take mark pool.items → new.spare + mark ≡ pool.spare + length pool.items → IsIndex pool.items mark heads links → length links ≡ length older → IsIndexed new heads links
released pool new mark newest older heads links x m e s i l =
    let count : mark ≡ length new.items = sym (ap length e ∙ length-take-le mark pool.items m) in
    record {
      graph = subst (λ (ts : List Term). IsGraph ts) (sym e) (graph_taken mark pool.items x.graph);
      few = omega (arith, x.few, count, m);
      index = subst (λ n. IsIndex new.items n heads links) count (subst (λ (ts : List Term). IsIndex ts mark heads links) (sym e) (index_taken pool.items mark heads links i m));
      spare = omega (arith, l, count, s, x.spare);
    }

-- Terms that are numbers.
use Rattle.std.proofs.Common.{◌≡◌, ℕ, ℤ, List, [], Some, slice_get, refl, ap, ◌∙◌}
use Rattle.terms.specs.declared.term.Term.{Term}
use Rattle.terms.specs.declared.term.Kind.TheVariants as k
use Rattle.terms.specs.Formula.{term}
use Rattle.term_bank.specs.Literal.{IsNumber}

pub number_at : (ts : List Term) (id : ℕ) (t : Term) → slice_get ts id ≡ Some t → t.kind ≡ k.Int → t.args ≡ [] → IsNumber ts id t.index
number_at ts id t g i a = record { stands = ([], g ∙ ap (λ kind. Some (term kind t.index t.args)) i ∙ ap (λ xs. Some (term k.Int t.index xs)) a, refl) }

is_node : (ts : List Term) (id : ℕ) (t : Term) (n : ℤ) → slice_get ts id ≡ Some t → IsNumber ts id n → t ≡ term k.Int n []
is_node ts id t n g h =
    let same : slice_get ts id ≡ Some (term k.Int n []) = h.stands.1 ∙ ap (λ xs. Some (term k.Int n xs)) h.stands.2 in
    cc

pub kind_of : (ts : List Term) (id : ℕ) (t : Term) (n : ℤ) → slice_get ts id ≡ Some t → IsNumber ts id n → t.kind ≡ k.Int
kind_of ts id t n g h = ap (λ (t : Term). t.kind) (is_node ts id t n g h)

pub args_of : (ts : List Term) (id : ℕ) (t : Term) (n : ℤ) → slice_get ts id ≡ Some t → IsNumber ts id n → t.args ≡ []
args_of ts id t n g h = ap (λ (t : Term). t.args) (is_node ts id t n g h)

-- The index of a graph: hash buckets of terms, each as a chain from its newest term to older ones. From hash tables with
-- separate chaining.
use Rattle.std.specs.Prelude.{◌≡◌, ℕ, zero, suc, ◌+◌, ◌*◌, ◌/◌, ◌%◌, ◌^◌, ◌<◌, ◌≤◌, ◌==◌, List, length, get_or, if◌then◌else◌, fold, option_map, unwrap_or, slice_get, Option, MatchOption, Contains, Some, bit_xor}
use Rattle.std.specs.Int.RustNames.{unsigned_abs}
use Rattle.term_pool.specs.Region.{Region}
use Rattle.terms.specs.declared.term.Term.{Term}
use Rattle.term_graph.specs.Graph.{IsGraph}

-- a hash on 64 bits with a number more. From polynomial hashing: the factor is odd and near 2^64 by the golden ratio. The
-- last number is added as it is, so terms that are made one after the other mostly have buckets near one another.
abbrev pub mix : ℕ → ℕ → ℕ
mix h n = (h * 0x9e37_79b9_7f4a_7c15 % 2 ^ 64 + n) % 2 ^ 64

-- a term's hash. Its kind isn't in it, since few terms differ in it alone
unfoldable pub hash : Term → ℕ
hash t = fold mix (mix 0 (unsigned_abs t.index % 2 ^ 64)) t.args

-- the bucket of the term with this number, of so many buckets
unfoldable pub bucket_of : ℕ → List Term → ℕ → ℕ
bucket_of count ts i = unwrap_or (option_map (λ t. hash t % count) (slice_get ts i)) 0

-- one more than the greatest number below n that has the bucket, 0 where none has
abbrev pub newest_below : (ℕ → ℕ) → ℕ → ℕ → ℕ
newest_below bucket b zero = 0
newest_below bucket b (suc n) = if bucket n == b then suc n else newest_below bucket b n

-- the first n terms stand in the index: the newest of each bucket, and the next older one of each term's bucket
pub record IsIndex (ts : List Term) (n : ℕ) (newest older : List ℕ) : Type 0 where
  pub room : n ≤ length older
  pub buckets : 0 < length older → 0 < length newest
  pub heads : (b : ℕ) → b < length newest → get_or newest b 0 ≡ newest_below (bucket_of (length newest) ts) b n
  pub links : (i : ℕ) → i < n → let bucket = bucket_of (length newest) ts in get_or older i 0 ≡ newest_below bucket (bucket i) i

-- the term's number, none exactly where it isn't there
abbrev pub IsNumberOf : List Term → Term → Option ℕ → Type 0
IsNumberOf ts t id = MatchOption id (Contains ts t → ⊥) (λ i. slice_get ts i ≡ Some t)

-- the terms of a pool are a graph and stand in the index, whose places hold numbers of 32 bits, and the pool has a place for
-- each that the index has
pub record IsIndexed (pool : Region Term) (newest older : List ℕ) : Type 0 where
  pub graph : IsGraph pool.items
  pub few : length pool.items < 2 ^ 32
  pub index : IsIndex pool.items (length pool.items) newest older
  pub spare : length older ≤ length pool.items + pool.spare

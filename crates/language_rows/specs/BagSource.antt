-- A program with claims and quantifiers: a bag that owns cells, and a function that makes a claim and ends another. Own. It has each form that has a quantified formula: `\forall` in an invariant and in the code, `\exists`, `\claims_only`, a wrap, the end of a claim.
use Rattle.std.specs.Prelude.{List, [], ◌∷◌}
use Prim.Native.String.{String}

abbrev pub bag_text : List String
bag_text =
    "_( claimable ) struct Cell { volatile long long n ; struct Cell * next ; _( invariant n >= 0 ) } ;" ∷
    "_( dynamic_owns ) struct Bag { unsigned size ; _( ghost \\claim key ; )" ∷
    "_( invariant \\forall struct Cell * c ; c \\in \\this -> \\owns ==> c -> next == NULL ) } ;" ∷
    "void Keep ( struct Bag * b , struct Cell * p , int k _( ghost \\claim c ) )" ∷
    "_( requires \\wrapped ( c ) && \\claims_only ( c , p ) )" ∷
    "_( requires \\exists struct Cell * q ; q \\in b -> \\owns && q == p )" ∷
    "_( writes b , c )" ∷
    "{" ∷
    "_( assert \\forall \\object q ; q \\in b -> \\owns ==> q -> \\closed )" ∷
    "_( wrap b )" ∷
    "_( ghost \\claim d = \\make_claim ( { p } , p -> n >= k ) ; )" ∷
    "_( ghost \\destroy_claim ( c , { p } ) ; )" ∷
    "}" ∷
    "void main ( ) { }" ∷ []

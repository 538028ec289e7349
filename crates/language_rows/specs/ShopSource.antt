-- A program whose quantifiers stand within one another: a shop that owns shelves, which own items. Own. Each inner one speaks of what an outer one binds: `\exists` in `\forall` in an invariant, `\forall` in `\exists` in a contract, and three in the code.
use Rattle.std.specs.Prelude.{List, [], ◌∷◌}
use Prim.Native.String.{String}

abbrev pub shop_text : List String
shop_text =
    "struct Item { struct Item * next ; int rank ; } ;" ∷
    "_( dynamic_owns ) struct Shelf { struct Item * first ;" ∷
    "_( invariant \\forall struct Item * p ; p \\in \\this -> \\owns ==>" ∷
    "\\exists struct Item * q ; q \\in \\this -> \\owns && q == p -> next ) } ;" ∷
    "_( dynamic_owns ) struct Shop { struct Item * best ; } ;" ∷
    "void Stock ( struct Shop * s , struct Shelf * t , int least )" ∷
    "_( requires \\exists struct Item * p ; p \\in t -> \\owns && p -> rank >= least &&" ∷
    "( \\forall struct Item * q ; q \\in t -> \\owns ==> p -> rank <= q -> rank ) )" ∷
    "{" ∷
    "_( assert \\forall struct Shelf * a ; a \\in s -> \\owns ==>" ∷
    "\\forall struct Item * p ; p \\in a -> \\owns ==>" ∷
    "\\exists struct Item * q ; q \\in a -> \\owns && q -> next == p && \\old ( q -> rank ) <= s -> best -> rank )" ∷
    "}" ∷
    "void main ( ) { }" ∷ []

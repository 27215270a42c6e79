-- Texts that begin with tokens, joined, and with blanks before them.
use Rattle.std.proofs.Common.{◌≢◌, ℕ, List, [], ◌∷◌, ◌++◌, refl}
use Rattle.tb_prim.specs.declared.place.Place.{Place}
use Rattle.tb_sexp.specs.declared.token.Token.{Token}
use Rattle.tb_sexp.specs.Blanks.{nothing, whitespace}
use Rattle.tb_sexp.specs.Grammar.{Placed, placed}
use Rattle.tb_sexp.specs.Places.{behind, behind_all}
use Rattle.tb_sexp.specs.Texts.{Begins, no_tokens, one_token}
use Rattle.tb_sexp.specs.Tokens.{Spells, EndsAt}

-- what stands before an element: nothing, or one space
pub data Lead : List ℕ → Type 0 where
  no_lead : Lead []
  a_space : Lead (32 ∷ [])

pub begins_then : {p q r : Place} {bs left rest : List ℕ} {ts us : List Placed} → Begins p bs ts q left → Begins q left us r rest → Begins p bs (ts ++ us) r rest
begins_then no_tokens more = more
begins_then (one_token front word rest t blank spells ends first) more = one_token front word rest t blank spells ends (begins_then first more)

space_before : {p q : Place} {bs left : List ℕ} {ts : List Placed} → ts ≢ [] → Begins (behind p 32) bs ts q left → Begins p (32 ∷ bs) ts q left
space_before some no_tokens = absurd (some refl)
space_before some (one_token front word rest t blank spells ends more) = one_token (32 ∷ front) word rest t (whitespace refl blank) spells ends more

pub lead_before : {lead : List ℕ} {p q : Place} {bs left : List ℕ} {ts : List Placed} → Lead lead → ts ≢ [] → Begins (behind_all p lead) bs ts q left → Begins p (lead ++ bs) ts q left
lead_before no_lead some h = h
lead_before a_space some h = space_before some h

-- one token, and then the rest
pub one_word : (p : Place) (w rest : List ℕ) (t : Token) → Spells w t → EndsAt t rest → Begins p (w ++ rest) (placed p t ∷ []) (behind_all p w) rest
one_word p w rest t spells ends = one_token [] w rest t nothing spells ends no_tokens

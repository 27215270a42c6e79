-- What a fault in a text is refused as.
use Rattle.std.specs.Prelude.{ℕ, List, take}
use Rattle.tb_prim.specs.declared.place.Place.{Place}
use Rattle.tb_sexp.specs.declared.token.Fault.{Fault}
use Rattle.tb_sexp.specs.declared.token.Fault.TheVariants as fault
use Rattle.tb_sexp.specs.declared.refusal.ReadRefusal.{ReadRefusal}
use Rattle.tb_sexp.specs.declared.refusal.ReadRefusal.TheVariants.{Syntax, Unclosed, TooLong, TooBig}
use Rattle.tb_sexp.specs.Places.{behind_all}

-- what is wrong at a place, where `rest` stands
abbrev pub refusal_of : Fault → Place → List ℕ → ReadRefusal
refusal_of fault.Syntax p rest = Syntax p
refusal_of fault.LongName p rest = TooLong p
refusal_of fault.BigNumber p rest = TooBig p
refusal_of fault.LongString p rest = TooLong p
refusal_of (fault.BadEscape n) p rest = Syntax (behind_all p (take n rest))
refusal_of fault.OpenString p rest = Unclosed p

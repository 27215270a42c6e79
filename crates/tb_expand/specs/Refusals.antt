-- Why a text is refused, and where.
use Rattle.tb_prim.specs.declared.place.Place.{Place}

pub data Refusal : Type 0 where
  BadForm : Place → Refusal
  Integrated : Place → Refusal
  Duplicate : Place → Refusal
  Budget : Place → Refusal
  TooDeep : Place → Refusal
  NotBuilt : Place → Refusal

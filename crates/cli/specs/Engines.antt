-- Which text names which engine.
use Rattle.std.specs.Prelude.{◌≡◌, ℕ, cond, List, Ok, Err, codes, Result}
use Rattle.std.specs.Str.{bytes_eq}
use Rattle.cli.specs.declared.engines.EngineName.{EngineName}
use Rattle.cli.specs.declared.engines.EngineName.TheVariants.{Plain, Packed, Postponed}
use Rattle.cli.specs.declared.engines.NoEngine.{NoEngine}

abbrev pub name_of : EngineName → List ℕ
name_of Plain = codes "plain"
name_of Packed = codes "packed"
name_of Postponed = codes "postponed"

-- the engine of a program that is given no name
abbrev pub default_engine : EngineName
default_engine = Postponed

-- the engine where the text is its name, or else another answer
abbrev pub else_engine : List ℕ → EngineName → Result EngineName NoEngine → Result EngineName NoEngine
else_engine text engine other = cond (bytes_eq text (name_of engine)) (Ok engine) other

-- the engine that a text names
abbrev pub engine_named : List ℕ → Result EngineName NoEngine
engine_named text = else_engine text Plain (else_engine text Packed (else_engine text Postponed (Err (record {}))))

-- the name of every engine is read back
abbrev pub NamesReadBack : Type 0
NamesReadBack = (engine : EngineName) → engine_named (name_of engine) ≡ Ok engine

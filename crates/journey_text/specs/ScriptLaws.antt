-- Bytes say one script, or have one fault.
use Rattle.std.specs.Prelude.{◌≡◌, ℕ, Bool, List}
use Rattle.journey_text.specs.ScriptReading.{HasFault, SaysScript}
use Rattle.journey_text.specs.declared.script_fault.ScriptFault.{ScriptFault}
use Rattle.journey_text.specs.declared.script.Record.{Record}

-- two scripts of the same bytes are one
abbrev pub OneScript : Type 0
OneScript = (bytes : List ℕ) (updates : Bool) (a b : List Record) → SaysScript bytes updates a → SaysScript bytes updates b → a ≡ b

-- two faults of the same bytes are one
abbrev pub OneFault : Type 0
OneFault = (bytes : List ℕ) (updates : Bool) (a b : ScriptFault) → HasFault bytes updates a → HasFault bytes updates b → a ≡ b

-- bytes that say a script have no fault
abbrev pub NeverBoth : Type 0
NeverBoth =
    (bytes : List ℕ) (updates : Bool) (script : List Record) (fault : ScriptFault) → SaysScript bytes updates script → HasFault bytes updates fault → ⊥

-- no bytes are without a script and a fault: not every one is ruled out
abbrev pub SomeReading : Type 0
SomeReading =
    (bytes : List ℕ) (updates : Bool) → ((script : List Record) → ¬ (SaysScript bytes updates script))
    → ((fault : ScriptFault) → ¬ (HasFault bytes updates fault)) → ⊥

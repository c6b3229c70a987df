-- What is made ready for the work of a command: the catalogue and the capabilities document are read, and a cabinet in memory is made.
use Rattle.std.specs.Prelude.{ℕ, ◌≡◌, ◌≤◌, ◌+◌, ◌⊎◌, List, length, Result, Ok, Err, ⊤}
use Rattle.std.specs.Io.KnownBytes.{Consumes, IsAtEnd}
use Rattle.cabinet.specs.State.{State, fresh_state}
use Rattle.catalog.specs.declared.catalogue.Catalogue.{Catalogue}
use Rattle.catalog.specs.declared.fault.CatalogueFault.{CatalogueFault}
use Rattle.base.specs.Causes.{Rose}
use Rattle.base.specs.Readings.{Readings}
use Rattle.config_text.specs.Text.{catalogue_of}
use Rattle.http_wire.specs.declared.inputs.InputEnd.{InputEnd}
use Rattle.http_wire.specs.declared.inputs.InputEnd.TheVariants as input_end
use Rattle.sessions.specs.Outside.{InputChange}
use Rattle.command_setup.specs.declared.configuration.Unconfigured.{Unconfigured}
use Rattle.command_setup.specs.declared.configuration.Unconfigured.TheVariants as unconfigured
use Rattle.command_setup.specs.declared.configuration.TheConstants.{CATALOGUE_LIMIT}
use Rattle.command_setup.specs.declared.description.TheConstants.{CAPABILITIES_LIMIT}

-- a read of an input failed
abbrev pub HasRisen : InputChange → Type 0
HasRisen i = Rose i.reads.before i.reads.after

-- THE CATALOGUE

-- what a call returned is what the text comes to, unless memory ran out
abbrev pub Comes : Result Catalogue Unconfigured → Result Catalogue CatalogueFault → Type 0
Comes (Ok c) r = r ≡ Ok c
Comes (Err unconfigured.ReadFault) r = ⊥
Comes (Err unconfigured.TooLong) r = ⊥
Comes (Err (unconfigured.Fault fault)) r = r ≡ Err fault
Comes (Err unconfigured.OutOfMemory) r = ⊤

-- the number of the source that a text's catalogue names; 0 where the text is refused
abbrev pub source_of : Result Catalogue CatalogueFault → ℕ
source_of (Ok c) = c.source
source_of (Err fault) = 0

-- the input was read to its end, and its text comes to this
pub record IsRead (i : InputChange) (r : Result Catalogue CatalogueFault) : Type 0 where
  pub text : List ℕ
  pub read : Consumes i.from i.to text
  pub at_end : IsAtEnd i.to
  pub short : length text ≤ CATALOGUE_LIMIT
  pub comes : catalogue_of text ≡ r

-- one byte more than a catalogue may have was taken
abbrev pub IsTooLongText : InputChange → Type 0
IsTooLongText i = (text : List ℕ) × Consumes i.from i.to text × (length text ≡ CATALOGUE_LIMIT + 1)

abbrev pub Configures : InputChange → Result Catalogue Unconfigured → Type 0
Configures i (Ok c) = IsRead i (Ok c)
Configures i (Err unconfigured.ReadFault) = HasRisen i
Configures i (Err unconfigured.TooLong) = IsTooLongText i
Configures i (Err (unconfigured.Fault fault)) = IsRead i (Err fault)
Configures i (Err unconfigured.OutOfMemory) = ⊤

-- THE CAPABILITIES

-- the input was read to its end, and this is its text, the capabilities document
pub record IsDocument (i : InputChange) (text : List ℕ) : Type 0 where
  pub read : Consumes i.from i.to text
  pub at_end : IsAtEnd i.to
  pub short : length text ≤ CAPABILITIES_LIMIT

-- one byte more than the document may have was taken
abbrev pub IsTooLongDocument : InputChange → Type 0
IsTooLongDocument i = (text : List ℕ) × Consumes i.from i.to text × (length text ≡ CAPABILITIES_LIMIT + 1)

abbrev pub Describes : InputChange → Result (List ℕ) InputEnd → Type 0
Describes i (Ok text) = IsDocument i text
Describes i (Err input_end.ReadFault) = HasRisen i
Describes i (Err input_end.TooLong) = IsTooLongDocument i
Describes i (Err input_end.OutOfMemory) = ⊤

-- WHAT IS MADE READY

-- both files were read: the catalogue, and after it the capabilities document
pub record AreRead (catalogue capabilities : InputChange) (of : Catalogue) (document : List ℕ) : Type 0 where
  pub read : IsRead catalogue (Ok of)
  pub describes : IsDocument capabilities document

-- so they were, and nothing has happened in the cabinet, which is one of the catalogue with the clock
pub record IsPrepared (catalogue capabilities : InputChange) (clock : Readings) (cabinet : State) (document : List ℕ) : Type 0 where
  pub of : Catalogue
  pub are : AreRead catalogue capabilities of document
  pub fresh : cabinet ≡ fresh_state of clock

-- this holds of the catalogue's input, and the capabilities' stayed as it was; or the catalogue was read, and this holds of the capabilities'
abbrev pub OfEither : InputChange → Type 0 → Type 0 → Type 0 → Type 0
OfEither catalogue CapabilitiesStay OfCatalogue OfCapabilities =
    (OfCatalogue × CapabilitiesStay) ⊎ ((c : Catalogue) × IsRead catalogue (Ok c) × OfCapabilities)

-- what each refusal says of the two inputs
abbrev pub IsRefused : InputChange → InputChange → Type 0 → Unconfigured → Type 0
IsRefused catalogue capabilities CapabilitiesStay unconfigured.ReadFault = OfEither catalogue CapabilitiesStay (HasRisen catalogue) (HasRisen capabilities)
IsRefused catalogue capabilities CapabilitiesStay unconfigured.TooLong = OfEither catalogue CapabilitiesStay (IsTooLongText catalogue) (IsTooLongDocument capabilities)
IsRefused catalogue capabilities CapabilitiesStay (unconfigured.Fault fault) = IsRead catalogue (Err fault) × CapabilitiesStay
IsRefused catalogue capabilities CapabilitiesStay unconfigured.OutOfMemory = OfEither catalogue CapabilitiesStay ⊤ ⊤

-- the refusal of a capabilities document, by the end of its reading
abbrev pub refusal_of : InputEnd → Unconfigured
refusal_of input_end.ReadFault = unconfigured.ReadFault
refusal_of input_end.TooLong = unconfigured.TooLong
refusal_of input_end.OutOfMemory = unconfigured.OutOfMemory

-- What a refusal says of what is made ready.
use Rattle.std.proofs.Common.{Ok, Err, inl, inr}
use Rattle.catalog.specs.declared.catalogue.Catalogue.{Catalogue}
use Rattle.http_wire.specs.declared.inputs.InputEnd.{InputEnd}
use Rattle.http_wire.specs.declared.inputs.InputEnd.TheVariants as input_end
use Rattle.sessions.specs.Outside.{InputChange}
use Rattle.command_setup.specs.declared.configuration.Unconfigured.{Unconfigured}
use Rattle.command_setup.specs.declared.configuration.Unconfigured.TheVariants as unconfigured
use Rattle.command_setup.specs.Setup.{Configures, Describes, IsRead, IsRefused, refusal_of}

-- a capabilities document that wasn't read, after the catalogue was
pub undescribed : (catalogue capabilities : InputChange) (CapabilitiesStay : Type 0) (c : Catalogue) → IsRead catalogue (Ok c) → (e : InputEnd) → Describes capabilities (Err e)
    → IsRefused catalogue capabilities CapabilitiesStay (refusal_of e)
undescribed catalogue capabilities CapabilitiesStay c read input_end.ReadFault h = inr (c, read, h)
undescribed catalogue capabilities CapabilitiesStay c read input_end.TooLong h = inr (c, read, h)
undescribed catalogue capabilities CapabilitiesStay c read input_end.OutOfMemory h = inr (c, read, tt)

-- a catalogue that wasn't read
pub unconfigured_first : (catalogue capabilities : InputChange) (CapabilitiesStay : Type 0) → CapabilitiesStay → (e : Unconfigured) → Configures catalogue (Err e)
    → IsRefused catalogue capabilities CapabilitiesStay e
unconfigured_first catalogue capabilities CapabilitiesStay stay unconfigured.ReadFault h = inl (h, stay)
unconfigured_first catalogue capabilities CapabilitiesStay stay unconfigured.TooLong h = inl (h, stay)
unconfigured_first catalogue capabilities CapabilitiesStay stay (unconfigured.Fault fault) h = (h, stay)
unconfigured_first catalogue capabilities CapabilitiesStay stay unconfigured.OutOfMemory h = inl (tt, stay)

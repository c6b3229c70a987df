-- Where the blobs of a disk are those of the pictures, the cabinet that it opens to is sound.
use Rattle.std.proofs.Common.{◌≡◌, ◌∙◌, ◌+◌, Bool, true, false, List, [], ◌∷◌, map, ap, sym}
use Rattle.std.proofs.lemmas.Bool.{false≢true}
use Rattle.std.specs.List.{AllByRecursion}
use Rattle.cabinet.specs.declared.kept.Kept.{Kept}
use Rattle.cabinet.specs.State.{IsPictured, IsSound}
use Rattle.cabinet_records.proofs.Replaying.{IsSoundIn, sound_is}
use Rattle.cabinet_records.specs.Replay.{Replayed}
use Rattle.catalog.specs.Valid.{IsValid}
use Rattle.catalog.specs.declared.catalogue.Catalogue.{Catalogue}
use Rattle.base.specs.Readings.{Readings}
use Rattle.disk_model.specs.Content.{Content, bytes_at}
use Rattle.durable_cabinet.specs.Filed.{opened_as}
use Rattle.durable_cabinet.specs.Images.{HasIn, IsSoundImage, OpensTo, blob_on, blobs_start, pictured}
use Rattle.raster_field.proofs.Metas.{block_length}

pictured_on : (c : Catalogue) (seen : Content) (r : Replayed) (ts : List Kept) → AllByRecursion (λ t. HasIn c seen (pictured c t)) ts → AllByRecursion (IsSoundIn c r) ts → AllByRecursion (IsPictured c) (map (blob_on c seen) ts)
pictured_on c seen r [] has sound = tt
pictured_on c seen r (t ∷ ts) has sound =
    (ap (bytes_at seen (blobs_start c + t.place)) (sound.0.long ∙ sym (block_length c t.meta t.number sound.0.meta)) ∙ has.0.bytes, pictured_on c seen r ts has.1 sound.1)

pub opened_sound : (told : Bool) (c : Catalogue) (seen : Content) (clock : Readings) (r : Replayed) → IsValid c → told ≡ true → IsSoundImage c seen → OpensTo c seen r → IsSound (opened_as told seen c clock r)
opened_sound true c seen clock r valid is sound opens = pictured_on c seen r r.kept (sound r opens) (sound_is c opens.entries r valid opens.replays).kept
opened_sound false c seen clock r valid is sound opens = absurd (false≢true is)

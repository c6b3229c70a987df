use Rattle.outbox.proofs.Imaging.{image_found, image_once}
use Rattle.outbox.proofs.laws.laws_of_outboxes.Goals as goal

pub returns-clause-one : goal.returns-clause-one
returns-clause-one c = image_once

pub returns-clause-found : goal.returns-clause-found
returns-clause-found c = image_found

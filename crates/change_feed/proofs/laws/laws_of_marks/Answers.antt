use Rattle.change_feed.proofs.Imaging.{image_either, image_once, image_ours}
use Rattle.change_feed.proofs.laws.laws_of_marks.Goals as goal

pub returns-clause-one : goal.returns-clause-one
returns-clause-one c = image_once

pub returns-clause-either : goal.returns-clause-either
returns-clause-either c = image_either

pub returns-clause-ours : goal.returns-clause-ours
returns-clause-ours c = image_ours

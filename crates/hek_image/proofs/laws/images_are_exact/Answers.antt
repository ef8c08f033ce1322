use Rattle.hek_image.proofs.ImageAgain.{image_again, image_again_old}
use Rattle.hek_image.proofs.ImageBack.{image_only}
use Rattle.hek_image.proofs.Whole.{image_bounded}
use Rattle.hek_image.proofs.laws.images_are_exact.Goals as goal

pub returns : goal.returns
returns c = record { again = image_again; again_old = image_again_old; only = image_only; bounded = image_bounded }

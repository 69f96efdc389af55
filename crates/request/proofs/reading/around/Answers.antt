-- What is gathered says how the elements end and whether the layout is kept. Assumes nothing.
use Rattle.request.proofs.Gathers.{around-so}
use Rattle.request.proofs.reading.around.Goals as goal

pub returns : goal.returns
returns c = around-so _ _ _ _ _ _ c.identity_len.ensures.0 c.fits-fits.ensures c.enclosed.ensures

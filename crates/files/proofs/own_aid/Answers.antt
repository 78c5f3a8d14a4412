-- `files::own_aid` meets its contract: the package AID follows mark, version and size. Assumes nothing.
use Rattle.files.proofs.Walks as walks
use Rattle.files.proofs.own_aid.Goals as goal

pub aid_bytes-requires : goal.aid_bytes-requires
aid_bytes-requires c = walks.file_aid c.requires

pub returns : goal.returns
returns c = walks.file_own c.aid_bytes.ensures

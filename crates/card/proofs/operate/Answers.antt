-- `card::operate` is safe: the parts of the buffer that it lends lie within it. Assumes nothing.
use Rattle.std.proofs.Common.{sym, length-take-le}
use Rattle.card.proofs.Forms.{ends, first_within, middles}
use Rattle.card.proofs.operate.Goals as goal

pub slice_bounds-loader_create-end : goal.slice_bounds-loader_create-end
slice_bounds-loader_create-end c =
    sym (length-take-le _ _ (ends _ c.in-Creation.is c.requires.1))

pub slice_bounds-loader_delete-end : goal.slice_bounds-loader_delete-end
slice_bounds-loader_delete-end c =
    sym (length-take-le _ _ (ends _ c.in-Deletion.is c.requires.1))

pub slice_bounds-loader_remove-end : goal.slice_bounds-loader_remove-end
slice_bounds-loader_remove-end c =
    sym (length-take-le _ _ (ends _ c.in-Removal.is c.requires.1))

pub slice_bounds-loader_load-end : goal.slice_bounds-loader_load-end
slice_bounds-loader_load-end c =
    sym (length-take-le _ _ (first_within _ c.in-Loading.is c.requires.0 c.requires.1))

pub slice_bounds-loader_load-count : goal.slice_bounds-loader_load-count
slice_bounds-loader_load-count c =
    middles c.in-Loading.is c.requires.0

pub slice_bounds-loader_load-start : goal.slice_bounds-loader_load-start
slice_bounds-loader_load-start c =
    middles c.in-Loading.is c.requires.0

pub slice_bounds-loader_load-end-in-Loading : goal.slice_bounds-loader_load-end-in-Loading
slice_bounds-loader_load-end-in-Loading c =
    ends _ c.in-Loading.is c.requires.1

-- The copy of a group is one of the same count and fields.
use Rattle.f66_tree.proofs.Rows.{group_copied}
use Rattle.f66_tree.proofs.format.+copy_fields.Goals as goal

pub copy_field-returns-in_ok-copy_fields-in-Group :
    goal.copy_field-returns-in_ok-copy_fields-in-Group
copy_field-returns-in_ok-copy_fields-in-Group t c =
    group_copied c.args.field.now c.in-Group.count c.in-Group.fields c.in_ok-copy_fields-in-Group.field-0 c.deref.result.now c.in-Group.is c.deref.ensures.value c.in_ok-copy_fields-in-Group.ensures

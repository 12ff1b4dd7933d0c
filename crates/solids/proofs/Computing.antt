-- One name that opens what is said of lists and tables, so that an example is proved by computing both sides.
use Rattle.solids.specs.Accept.{solid_rules, acceptable}
use Rattle.solids.specs.Table.{table_of_list, own_table, sound}
use Rattle.solids.specs.Uploaded.{uploaded_of_list}

unfoldable pub computing : Unit {0}
unfolding solid_rules acceptable table_of_list own_table sound uploaded_of_list
computing = tt

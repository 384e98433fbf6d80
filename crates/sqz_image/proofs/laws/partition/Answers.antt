use Rattle.sqz_object.proofs.PartitionLemmas.{IsPartition-unique, IsStuck-unique, IsStuck-no_partition, partition_or_stuck}
use Rattle.sqz_image.proofs.laws.partition.Goals as goal

pub returns-clause-one_or_other : goal.returns-clause-one_or_other
returns-clause-one_or_other c = partition_or_stuck

pub returns-clause-one_way : goal.returns-clause-one_way
returns-clause-one_way c = IsPartition-unique

pub returns-clause-one_place : goal.returns-clause-one_place
returns-clause-one_place c = IsStuck-unique

pub returns-clause-not_both : goal.returns-clause-not_both
returns-clause-not_both c = IsStuck-no_partition
